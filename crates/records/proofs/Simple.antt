-- The commands without lists.
use Rattle.std.proofs.Common.{◌≡◌, ℕ, ◌+◌, ◌<◌, ◌≤◌, true, List, [], ◌∷◌, ◌++◌, length, drop, Some, Option, sym, refl, ap, ◌∙◌, arith}
use Rattle.std.proofs.lemmas.Bool.{lt-ltb, ltb-true, le-leb, leb-true, and_from, and_parts}
use Rattle.std.proofs.lemmas.List.{append-nil, append_assoc}
use Rattle.std.proofs.lemmas.Bool.Decides.{nat_tests}
use Rattle.pages.specs.Bytes.{all_bytes, eight}
use Rattle.dates.specs.Limits.{a_stretch}
use Rattle.records.specs.Command.{Command as Meant, join, drop_event, skip, list, next_one, shown, spelled, fits}
use Rattle.records.specs.declared.command.Stretch.{Stretch}
use Rattle.records.specs.declared.command.Command.{Command}
use Rattle.records.specs.declared.command.Command.TheVariants.{Join, DropEvent, Skip, Listing, Next, Shown}
use Rattle.records.specs.Reader.{wide, any_number, stretch, find_join, find_drop, find_skip, find_list, find_next, find_shown, meant}
use Rattle.records.proofs.Fields.{Spelt, onto, closed, Back, went, kept, wide_only, wide_back, text_only, text_back, ended_only, ended_back}

-- what is found after a first byte is spelled so, and fits
pub record Good (b : ℕ) (t : List ℕ) (q : Command) : Type 0 where
  pub spelt : spelled (meant t q) ≡ b ∷ drop 1 t
  pub fit : fits (meant t q) ≡ true

pub record Found (o : Option Command) (t : List ℕ) (c : Meant) : Type 0 where
  pub got : Command
  pub was : o ≡ Some got
  pub means : meant t got ≡ c

pub record StretchRead (t : List ℕ) (k : ℕ) (x : Stretch × ℕ) : Type 0 where
  pub first : Spelt (eight x.0.from) t k (k + 8)
  pub second : Spelt (eight x.0.to) t (k + 8) x.1
  pub fit : a_stretch x.0.from x.0.to ≡ true

pub next_place : (lo hi : ℕ) (t : List ℕ) (k : ℕ) (x : ℕ × ℕ) → wide lo hi t k ≡ Some x → k + 8 ≡ x.1
unfolding wide
next_place lo hi t k x e = let c = kept _ _ _ e in ap (λ (y : ℕ × ℕ). y.1) c.is

pub stretch_only : (t : List ℕ) (k : ℕ) (x : Stretch × ℕ) → all_bytes t ≡ true → stretch t k ≡ Some x → StretchRead t k x
stretch_only t k x h e =
    let a = went _ _ _ e in
    let wa = wide_only 15840 105119999 t k a.got h a.was in
    let b = went _ _ _ a.goes in
    let wb = wide_only 15840 105119999 t a.got.1 b.got h b.was in
    let c = kept _ _ _ b.goes in
    let p = and_parts _ _ c.holds in
    let l : a.got.0 < b.got.0 = ltb-true _ _ p.0 in
    let m : b.got.0 ≤ a.got.0 + 576000 = leb-true _ _ p.1 in
    let n : k + 8 ≡ a.got.1 = next_place _ _ t k a.got a.was in
    let all : StretchRead t k (record { from = a.got.0; to = b.got.0 }, b.got.1) = record { first = rw n wa.spelt; second = rw n wb.spelt; fit = grind (arith, nat_tests) } in
    rw c.is at all

abbrev pub stretch_of : ℕ → ℕ → Stretch
stretch_of f u = record { from = f; to = u }

pub stretch_back : (t r : List ℕ) (k f u : ℕ) → drop k t ≡ eight f ++ (eight u ++ r) → a_stretch f u ≡ true → Back (stretch t k) (stretch_of f u) r t (k + 8 + 8)
stretch_back t r k f u e h =
    let p = and_parts _ _ h in
    let pf = and_parts _ _ (and_parts _ _ p.0).0 in
    let pu = and_parts _ _ (and_parts _ _ p.0).1 in
    let f1 : 15840 ≤ f = leb-true _ _ pf.0 in
    let f2 : f < 105120000 = ltb-true _ _ pf.1 in
    let u1 : 15840 ≤ u = leb-true _ _ pu.0 in
    let u2 : u < 105120000 = ltb-true _ _ pu.1 in
    let wf = wide_back 15840 105119999 t (eight u ++ r) k f e (omega arith) (omega arith) (omega arith) in
    let wu = wide_back 15840 105119999 t r (k + 8) u wf.rest (omega arith) (omega arith) (omega arith) in
    record { reads = rw (wf.reads, wu.reads, p.1); rest = wu.rest; fit = wu.fit }

-- two numbers
module _ (t : List ℕ) (bytes : all_bytes t ≡ true) (q : Command) where
  pub drop_only : find_drop t ≡ Some q → Good 5 t q
  unfolding spelled fits
  drop_only e =
      let a = went _ _ _ e in
      let wa = wide_only 0 255 t 1 a.got bytes a.was in
      let n = went _ _ _ a.goes in
      let wn = wide_only 0 any_number t a.got.1 n.got bytes n.was in
      let z = ended_only t _ _ _ n.goes in
      let all : Good 5 t (DropEvent a.got.0 n.got.0) =
      record { spelt = ap (λ u. 5 ∷ u) (closed (onto wa.spelt wn.spelt) z.0); fit = grind (arith, nat_tests) } in
      rw z.1 at all

  pub next_only : find_next t ≡ Some q → Good 10 t q
  unfolding spelled fits
  next_only e =
      let a = went _ _ _ e in
      let wa = wide_only 0 255 t 1 a.got bytes a.was in
      let n = went _ _ _ a.goes in
      let wn = wide_only 15840 105119999 t a.got.1 n.got bytes n.was in
      let z = ended_only t _ _ _ n.goes in
      let all : Good 10 t (Next a.got.0 n.got.0) =
      record { spelt = ap (λ u. 10 ∷ u) (closed (onto wa.spelt wn.spelt) z.0); fit = grind (arith, nat_tests) } in
      rw z.1 at all

  pub shown_only : find_shown t ≡ Some q → Good 11 t q
  unfolding spelled fits
  shown_only e =
      let a = went _ _ _ e in
      let wa = wide_only 0 255 t 1 a.got bytes a.was in
      let n = went _ _ _ a.goes in
      let wn = wide_only 0 any_number t a.got.1 n.got bytes n.was in
      let z = ended_only t _ _ _ n.goes in
      let all : Good 11 t (Shown a.got.0 n.got.0) =
      record { spelt = ap (λ u. 11 ∷ u) (closed (onto wa.spelt wn.spelt) z.0); fit = grind (arith, nat_tests) } in
      rw z.1 at all

  pub skip_only : find_skip t ≡ Some q → Good 6 t q
  unfolding spelled fits
  skip_only e =
      let a = went _ _ _ e in
      let wa = wide_only 0 255 t 1 a.got bytes a.was in
      let n = went _ _ _ a.goes in
      let wn = wide_only 0 any_number t a.got.1 n.got bytes n.was in
      let d = went _ _ _ n.goes in
      let wd = wide_only 11 72999 t n.got.1 d.got bytes d.was in
      let z = ended_only t _ _ _ d.goes in
      let all : Good 6 t (Skip a.got.0 n.got.0 d.got.0) =
      record { spelt = ap (λ u. 6 ∷ u) (closed (onto (onto wa.spelt wn.spelt) wd.spelt) z.0); fit = grind (arith, nat_tests) } in
      rw z.1 at all

  pub list_only : find_list t ≡ Some q → Good 7 t q
  unfolding spelled fits
  list_only e =
      let a = went _ _ _ e in
      let wa = wide_only 0 255 t 1 a.got bytes a.was in
      let s = went _ _ _ a.goes in
      let ws = stretch_only t a.got.1 s.got bytes s.was in
      let z = ended_only t _ _ _ s.goes in
      let all : Good 7 t (Listing a.got.0 s.got.0) =
      record { spelt = ap (λ u. 7 ∷ u) (closed (onto (onto wa.spelt ws.first) ws.second) z.0); fit = and_from _ _ (lt-ltb _ _ (omega arith)) ws.fit } in
      rw z.1 at all

  pub join_only : find_join t ≡ Some q → Good 1 t q
  unfolding spelled fits
  join_only e =
      let a = went _ _ _ e in
      let wa = text_only 1 64 t 1 a.got bytes a.was in
      let z = ended_only t _ _ _ a.goes in
      let all : Good 1 t (Join a.got.0) =
      record { spelt = ap (λ u. 1 ∷ u) (closed wa.spelt z.0); fit = and_from _ _ (and_from _ _ (le-leb _ _ wa.few_least) (le-leb _ _ wa.most_at)) wa.bytes } in
      rw z.1 at all

-- and back

pub drop_back : (t : List ℕ) (a n : ℕ) → drop 1 t ≡ eight a ++ eight n → fits (drop_event a n) ≡ true → Found (find_drop t) t (drop_event a n)
unfolding fits
drop_back t a n e f =
    let p = and_parts _ _ f in
    let la : a < 256 = ltb-true _ _ p.0 in
    let ln : n < 18446744073709551616 = ltb-true _ _ p.1 in
    let wa = wide_back 0 255 t (eight n) 1 a e (omega arith) (omega arith) (omega arith) in
    let wn = wide_back 0 any_number t [] 9 n (wa.rest ∙ sym (append-nil (eight n))) (omega arith) (omega arith) (omega arith) in
    record { got = DropEvent a n; was = rw (wa.reads, wn.reads, ended_back t 17 (DropEvent a n) wn.rest wn.fit); means = refl }

pub shown_back : (t : List ℕ) (a n : ℕ) → drop 1 t ≡ eight a ++ eight n → fits (shown a n) ≡ true → Found (find_shown t) t (shown a n)
unfolding fits
shown_back t a n e f =
    let p = and_parts _ _ f in
    let la : a < 256 = ltb-true _ _ p.0 in
    let ln : n < 18446744073709551616 = ltb-true _ _ p.1 in
    let wa = wide_back 0 255 t (eight n) 1 a e (omega arith) (omega arith) (omega arith) in
    let wn = wide_back 0 any_number t [] 9 n (wa.rest ∙ sym (append-nil (eight n))) (omega arith) (omega arith) (omega arith) in
    record { got = Shown a n; was = rw (wa.reads, wn.reads, ended_back t 17 (Shown a n) wn.rest wn.fit); means = refl }

pub next_back : (t : List ℕ) (a n : ℕ) → drop 1 t ≡ eight a ++ eight n → fits (next_one a n) ≡ true → Found (find_next t) t (next_one a n)
unfolding fits
next_back t a n e f =
    let p = and_parts _ _ f in
    let la : a < 256 = ltb-true _ _ p.0 in
    let q = and_parts _ _ p.1 in
    let l1 : 15840 ≤ n = leb-true _ _ q.0 in
    let l2 : n < 105120000 = ltb-true _ _ q.1 in
    let wa = wide_back 0 255 t (eight n) 1 a e (omega arith) (omega arith) (omega arith) in
    let wn = wide_back 15840 105119999 t [] 9 n (wa.rest ∙ sym (append-nil (eight n))) (omega arith) (omega arith) (omega arith) in
    record { got = Next a n; was = rw (wa.reads, wn.reads, ended_back t 17 (Next a n) wn.rest wn.fit); means = refl }

pub skip_back : (t : List ℕ) (a n d : ℕ) → drop 1 t ≡ eight a ++ eight n ++ eight d → fits (skip a n d) ≡ true → Found (find_skip t) t (skip a n d)
unfolding fits
skip_back t a n d e f =
    let p = and_parts _ _ f in
    let o = and_parts _ _ p.0 in
    let la : a < 256 = ltb-true _ _ o.0 in
    let ln : n < 18446744073709551616 = ltb-true _ _ o.1 in
    let q = and_parts _ _ p.1 in
    let l1 : 11 ≤ d = leb-true _ _ q.0 in
    let l2 : d < 73000 = ltb-true _ _ q.1 in
    let wa = wide_back 0 255 t (eight n ++ eight d) 1 a (e ∙ append_assoc (eight a) (eight n) (eight d)) (omega arith) (omega arith) (omega arith) in
    let wn = wide_back 0 any_number t (eight d) 9 n wa.rest (omega arith) (omega arith) (omega arith) in
    let wd = wide_back 11 72999 t [] 17 d (wn.rest ∙ sym (append-nil (eight d))) (omega arith) (omega arith) (omega arith) in
    record { got = Skip a n d; was = rw (wa.reads, wn.reads, wd.reads, ended_back t 25 (Skip a n d) wd.rest wd.fit); means = refl }

pub list_back : (t : List ℕ) (a f u : ℕ) → drop 1 t ≡ eight a ++ eight f ++ eight u → fits (list a f u) ≡ true → Found (find_list t) t (list a f u)
unfolding fits
list_back t a f u e h =
    let p = and_parts _ _ h in
    let la : a < 256 = ltb-true _ _ p.0 in
    let wa = wide_back 0 255 t (eight f ++ eight u) 1 a (e ∙ append_assoc (eight a) (eight f) (eight u)) (omega arith) (omega arith) (omega arith) in
    let ws = stretch_back t [] 9 f u (wa.rest ∙ ap (λ v. eight f ++ v) (sym (append-nil (eight u)))) p.1 in
    record { got = Listing a (stretch_of f u); was = rw (wa.reads, ws.reads, ended_back t 25 (Listing a (stretch_of f u)) ws.rest ws.fit); means = refl }

pub join_back : (t n : List ℕ) → drop 1 t ≡ eight (length n) ++ n → fits (join n) ≡ true → Found (find_join t) t (join n)
unfolding fits
join_back t n e f =
    let p = and_parts _ _ f in
    let q = and_parts _ _ p.0 in
    let l1 : 1 ≤ length n = leb-true _ _ q.0 in
    let l2 : length n ≤ 64 = leb-true _ _ q.1 in
    let w = text_back 1 64 t [] n 1 (e ∙ ap (λ u. eight (length n) ++ u) (sym (append-nil n))) l1 l2 (omega arith) in
    record { got = Join w.part; was = rw (w.reads, ended_back t w.next (Join w.part) w.rest w.fit); means = ap join w.holds }
