-- The reader is right: a text is read as a command exactly when it spells it; and no two commands are spelled alike.
use Rattle.std.proofs.Common.{◌≡◌, ℕ, ◌<◌, ◌≤◌, Bool, true, false, cond, ◌&&◌, eqb, ltb, List, [], ◌∷◌, ◌++◌, length, get_or, slice_get, Some, None, Option, sym, refl, ap, ◌∙◌, subst, arith}
use Rattle.std.proofs.lemmas.Bool.{lt-ltb, ltb-true, leb-true, eqb-true, and_from, and_parts}
use Rattle.pages.specs.Lists.{flat}
use Rattle.pages.specs.Bytes.{all_bytes, eight, with_length}
use Rattle.pages.specs.Promise.{Never}
use Rattle.pages.proofs.ByteLists.{bytes_append, bytes_eight}
use Rattle.dates.specs.Zone.{Zone}
use Rattle.dates.specs.Limits.{a_zone}
use Rattle.recurrence.specs.Event.{Repeat, Event, a_repeat, an_event}
use Rattle.records.specs.Command.{Command as Meant, join, zone, put, change, drop_event, skip, list, busy_times, free, next_one, shown, spelled, fits, bit, numbers, zone_spelled, repeat_spelled, event_spelled}
use Rattle.records.specs.Promise.{Said, SpelledOnce}
use Rattle.records.specs.Reads.{Reads}
use Rattle.records.specs.declared.command.Command.{Command}
use Rattle.records.specs.Reader.{found, found_as, meant}
use Rattle.records.proofs.Lists.{bytes_numbers}
use Rattle.records.proofs.Simple.{Good, Found, join_only, drop_only, skip_only, list_only, next_only, shown_only, join_back, drop_back, skip_back, list_back, next_back, shown_back}
use Rattle.records.proofs.Listed.{zone_bounds, zone_only, busy_only, free_only, zone_back, busy_back, free_back}
use Rattle.records.proofs.Events.{put_only, change_only, put_back, change_back}

-- what was found under a first byte
by : (b n : ℕ) (x y : Option Command) (q : Command) (G : Type 0) → cond (eqb b n) x y ≡ Some q → (b ≡ n → x ≡ Some q → G) → (y ≡ Some q → G) → G
by b n x y q G = go (eqb b n) (eqb-true b n)
  where
    go : (v : Bool) → (v ≡ true → b ≡ n) → cond v x y ≡ Some q → (b ≡ n → x ≡ Some q → G) → (y ≡ Some q → G) → G
    go true e h f g = f (e refl) h
    go false e h f g = g h

nothing : {A : Type 0} (G : Type 0) (q : A) → None ≡ Some q → G
nothing G q h = absurd (let no : ◌≡◌ {A = ℕ} 0 1 = cc in omega arith)

found_good : (b : ℕ) (t : List ℕ) (q : Command) → all_bytes t ≡ true → found_as b t ≡ Some q → Good b t q
found_good b t q h e =
    let at : (n : ℕ) → b ≡ n → Good n t q → Good b t q = λ n s g. subst (λ m. Good m t q) (sym s) g in
    by b 1 _ _ q (Good b t q) e (λ s x. at 1 s (join_only t h q x)) (λ e1.
    by b 2 _ _ q (Good b t q) e1 (λ s x. at 2 s (zone_only t h q x)) (λ e2.
    by b 3 _ _ q (Good b t q) e2 (λ s x. at 3 s (put_only t h q x)) (λ e3.
    by b 4 _ _ q (Good b t q) e3 (λ s x. at 4 s (change_only t h q x)) (λ e4.
    by b 5 _ _ q (Good b t q) e4 (λ s x. at 5 s (drop_only t h q x)) (λ e5.
    by b 6 _ _ q (Good b t q) e5 (λ s x. at 6 s (skip_only t h q x)) (λ e6.
    by b 7 _ _ q (Good b t q) e6 (λ s x. at 7 s (list_only t h q x)) (λ e7.
    by b 8 _ _ q (Good b t q) e7 (λ s x. at 8 s (busy_only t h q x)) (λ e8.
    by b 9 _ _ q (Good b t q) e8 (λ s x. at 9 s (free_only t h q x)) (λ e9.
    by b 10 _ _ q (Good b t q) e9 (λ s x. at 10 s (next_only t h q x)) (λ e10.
    by b 11 _ _ q (Good b t q) e10 (λ s x. at 11 s (shown_only t h q x)) (λ e11. nothing (Good b t q) q e11)))))))))))

pub found_only : (t : List ℕ) (q : Command) → found t ≡ Some q → (spelled (meant t q) ≡ t) × (fits (meant t q) ≡ true)
unfolding found
found_only [] q e = nothing _ q e
found_only (b ∷ t) q e = go (ltb 0 (length (b ∷ t)) && all_bytes (b ∷ t)) refl e
  where
    go : (v : Bool) → (ltb 0 (length (b ∷ t)) && all_bytes (b ∷ t)) ≡ v → cond v (found_as b (b ∷ t)) None ≡ Some q → (spelled (meant (b ∷ t) q) ≡ b ∷ t) × (fits (meant (b ∷ t) q) ≡ true)
    go true h x = let g = found_good b (b ∷ t) q (and_parts _ _ h).1 x in (g.spelt, g.fit)
    go false h x = nothing _ q x

-- what fits is spelled in bytes
zone_bytes : (z : Zone) → a_zone z ≡ true → all_bytes (zone_spelled z) ≡ true
zone_bytes z h =
    let b = zone_bounds z h in
    bytes_append (eight z.east ++ eight z.extra) _ (bytes_append (eight z.east) _ (bytes_eight z.east) (bytes_eight z.extra))
    (and_from _ _ (small _ 12 b.m2 (omega arith)) (and_from _ _ (small _ 5 b.w2 (omega arith)) (and_from _ _ (small _ 12 b.n2 (omega arith)) (and_from _ _ (small _ 5 b.v2 (omega arith)) (bytes_eight z.at)))))
  where
    small : (n m : ℕ) → n ≤ m → m < 256 → ltb n 256 ≡ true
    small n m h l = lt-ltb n 256 (omega arith)

numbers_bytes : (ns : List ℕ) → all_bytes (numbers ns) ≡ true
numbers_bytes ns = bytes_append (eight (length ns)) (flat eight ns) (bytes_eight (length ns)) (bytes_numbers ns)

repeat_bytes : (r : Repeat) → a_repeat r ≡ true → all_bytes (repeat_spelled r) ≡ true
repeat_bytes r h =
    let l : r.kind ≤ 6 = leb-true _ _ (and_parts _ _ (and_parts _ _ (and_parts _ _ h).0).0).0 in
    bytes_append (r.kind ∷ eight r.step ++ numbers r.weekdays ++ eight r.times) (eight r.last)
    (bytes_append (r.kind ∷ eight r.step ++ numbers r.weekdays) (eight r.times)
    (bytes_append (r.kind ∷ eight r.step) (numbers r.weekdays) (and_from _ _ (lt-ltb _ _ (omega arith)) (bytes_eight r.step)) (numbers_bytes r.weekdays))
    (bytes_eight r.times))
    (bytes_eight r.last)

bit_byte : (b : Bool) → ltb (bit b) 256 ≡ true
bit_byte true = refl
bit_byte false = refl

event_bytes : (e : Event) → an_event e ≡ true → all_bytes (event_spelled e) ≡ true
event_bytes e h =
    let p = and_parts _ _ h in
    let tz = and_parts _ _ (and_parts _ _ p.0).0 in
    let lz : e.zone < 16 = ltb-true _ _ tz.1 in
    let t = with_length e.title in
    let zf = e.zone ∷ eight e.first in
    let m = eight e.minute in
    let l = eight e.long in
    let r = bit e.busy ∷ repeat_spelled e.repeat in
    bytes_append (t ++ zf ++ m ++ l ++ r) (numbers e.left_out)
    (bytes_append (t ++ zf ++ m ++ l) r
    (bytes_append (t ++ zf ++ m) l
    (bytes_append (t ++ zf) m
    (bytes_append t zf (bytes_append (eight (length e.title)) e.title (bytes_eight (length e.title)) (and_parts _ _ tz.0).1) (and_from _ _ (lt-ltb _ _ (omega arith)) (bytes_eight e.first)))
    (bytes_eight e.minute))
    (bytes_eight e.long))
    (and_from _ _ (bit_byte e.busy) (repeat_bytes e.repeat (and_parts _ _ p.1).0)))
    (numbers_bytes e.left_out)

two_bytes : (a b : ℕ) → all_bytes (eight a ++ eight b) ≡ true
two_bytes a b = bytes_append (eight a) (eight b) (bytes_eight a) (bytes_eight b)

three_bytes : (a b c : ℕ) → all_bytes (eight a ++ eight b ++ eight c) ≡ true
three_bytes a b c = bytes_append (eight a ++ eight b) (eight c) (two_bytes a b) (bytes_eight c)

spelled_bytes : (c : Meant) → fits c ≡ true → all_bytes (spelled c) ≡ true
unfolding spelled fits
spelled_bytes (join n) f = bytes_append (eight (length n)) n (bytes_eight (length n)) (and_parts _ _ f).1
spelled_bytes (zone k z) f = let p = and_parts _ _ f in let l : k < 16 = ltb-true _ _ p.0 in and_from _ _ (lt-ltb k 256 (omega arith)) (zone_bytes z p.1)
spelled_bytes (put a e) f = bytes_append (eight a) (event_spelled e) (bytes_eight a) (event_bytes e (and_parts _ _ f).1)
spelled_bytes (change a n e) f = bytes_append (eight a ++ eight n) (event_spelled e) (two_bytes a n) (event_bytes e (and_parts _ _ f).1)
spelled_bytes (drop_event a n) f = two_bytes a n
spelled_bytes (skip a n d) f = three_bytes a n d
spelled_bytes (list a u v) f = three_bytes a u v
spelled_bytes (busy_times ps u v) f = bytes_append (numbers ps ++ eight u) (eight v) (bytes_append (numbers ps) (eight u) (numbers_bytes ps) (bytes_eight u)) (bytes_eight v)
spelled_bytes (free ps k u v) f =
    bytes_append (numbers ps ++ eight k ++ eight u) (eight v) (bytes_append (numbers ps ++ eight k) (eight u) (bytes_append (numbers ps) (eight k) (numbers_bytes ps) (bytes_eight k)) (bytes_eight u)) (bytes_eight v)
spelled_bytes (next_one a u) f = two_bytes a u
spelled_bytes (shown a n) f = two_bytes a n

-- so what is spelled is found
found_as_back : (c : Meant) → fits c ≡ true → Found (found_as (get_or (spelled c) 0 0) (spelled c)) (spelled c) c
unfolding spelled
found_as_back (join n) f = join_back _ n refl f
found_as_back (zone k z) f = zone_back _ k z refl f
found_as_back (put a e) f = put_back _ a e refl f
found_as_back (change a n e) f = change_back _ a n e refl f
found_as_back (drop_event a n) f = drop_back _ a n refl f
found_as_back (skip a n d) f = skip_back _ a n d refl f
found_as_back (list a u v) f = list_back _ a u v refl f
found_as_back (busy_times ps u v) f = busy_back _ ps u v refl f
found_as_back (free ps k u v) f = free_back _ ps k u v refl f
found_as_back (next_one a u) f = next_back _ a u refl f
found_as_back (shown a n) f = shown_back _ a n refl f

some_bytes : (c : Meant) → ltb 0 (length (spelled c)) ≡ true
unfolding spelled
some_bytes (join n) = lt-ltb 0 (length (spelled (join n))) (omega arith)
some_bytes (zone k z) = lt-ltb 0 (length (spelled (zone k z))) (omega arith)
some_bytes (put a e) = lt-ltb 0 (length (spelled (put a e))) (omega arith)
some_bytes (change a n e) = lt-ltb 0 (length (spelled (change a n e))) (omega arith)
some_bytes (drop_event a n) = lt-ltb 0 (length (spelled (drop_event a n))) (omega arith)
some_bytes (skip a n d) = lt-ltb 0 (length (spelled (skip a n d))) (omega arith)
some_bytes (list a u v) = lt-ltb 0 (length (spelled (list a u v))) (omega arith)
some_bytes (busy_times ps u v) = lt-ltb 0 (length (spelled (busy_times ps u v))) (omega arith)
some_bytes (free ps k u v) = lt-ltb 0 (length (spelled (free ps k u v))) (omega arith)
some_bytes (next_one a u) = lt-ltb 0 (length (spelled (next_one a u))) (omega arith)
some_bytes (shown a n) = lt-ltb 0 (length (spelled (shown a n))) (omega arith)

pub read_back : (c : Meant) → fits c ≡ true → Found (found (spelled c)) (spelled c) c
unfolding found
read_back c f =
    let b = found_as_back c f in
    record { got = b.got; was = rw (some_bytes c, spelled_bytes c f) b.was; means = b.means }

-- for any bytes, what is found is what they spell, and nothing that they spell is not found
pub reads : (t : List ℕ) (o : Option Command) → found t ≡ o → Reads t o
unfolding Reads Said
reads t (Some q) e = found_only t q e
reads t None e = λ c s.
    let b = read_back c s.1 in
    let f : found t ≡ Some b.got = sym (ap found s.0) ∙ b.was in
    nothing Never b.got (sym e ∙ f)

pub spelled_once : SpelledOnce
unfolding SpelledOnce
spelled_once a c f g e =
    let x = read_back a f in
    let y = read_back c g in
    let k : Some x.got ≡ Some y.got = sym x.was ∙ ap found e ∙ y.was in
    let q : x.got ≡ y.got = cc in
    sym x.means ∙ ap (λ t. meant t x.got) e ∙ ap (meant (spelled c)) q ∙ y.means

-- as the code goes: by the first byte, if there is one
pub found_none : (t : List ℕ) → None ≡ slice_get t 0 → found t ≡ None
unfolding found
found_none [] e = refl
found_none (b ∷ t) e = absurd (let no : ◌≡◌ {A = ℕ} 0 1 = cc in omega arith)

pub found_some : (t : List ℕ) → 1 ≤ length t → all_bytes t ≡ true → found t ≡ found_as (get_or t 0 0) t
unfolding found
found_some t h b = rw (lt-ltb 0 (length t) (omega arith), b)

pub found_first : (t : List ℕ) (b : ℕ) → Some b ≡ slice_get t 0 → all_bytes t ≡ true → found t ≡ found_as b t
unfolding found
found_first [] b e h = absurd (let no : ◌≡◌ {A = ℕ} 0 1 = cc in omega arith)
found_first (a ∷ t) b e h = let q : a ≡ b = cc in rw (lt-ltb 0 (length (a ∷ t)) (omega arith), h) (ap (λ c. found_as c (a ∷ t)) q)
