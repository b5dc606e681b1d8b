-- The machine's memory keeps its length, and its numbers stay below 2^64, whatever it holds and whatever the machine is told.
use Rattle.std.proofs.Common.{◌≡◌, ℕ, zero, suc, ◌+◌, ◌*◌, ◌/◌, ◌%◌, ◌<◌, ◌≤◌, Bool, true, false, cond, not, ◌&&◌, eqb, ltb, leb, List, [], ◌∷◌, length, get_or, take, drop, replicate, Some, None, Option, sym, refl, ap, ◌∙◌, arith, lit<, length-drop, length-take, rules}
use Rattle.std.proofs.lemmas.List.{length-map}
use Rattle.std.proofs.lemmas.Bool.{eqb-true, ltb-true, leb-true, and_parts}
use Rattle.std.proofs.lemmas.Bool.Decides.{nat_tests}
use Rattle.pages.specs.Lists.{every, bit}
use Rattle.pages.specs.Bytes.{all_bytes, placed}
use Rattle.pages.specs.Device.{zeros, a_page}
use Rattle.pages.specs.Fields.{at, fd, pad}
use Rattle.pages.specs.Run.{Event, on, said, page, next, Step, all_small, Steady}
use Rattle.pages.specs.Store.{heads_of, area}
use Rattle.pages.specs.Deeds.{side_at, side_number}
use Rattle.pages.specs.Waking.{fresh_head, chosen, is_second, source_of, brought, hears, wiped_from, copied_from, replayed_from, homing, home_of, page_at, next_at, page_of, next_of, steady as in_range}
use Rattle.pages.specs.Journal.{opened, opens, slots_from, homes_from, homing as commit_homing, next_at as commit_next_at, next_of as commit_next_of, steady as commit_in_range}
use Rattle.pages.specs.declared.deed.Deed.{Deed}
use Rattle.pages.specs.declared.deed.Deed.TheVariants.{Read, Write, Ready}
use Rattle.pages.specs.declared.side.Side.{Side}
use Rattle.pages.specs.declared.side.Side.TheVariants.{First, Second}
use Rattle.pages.specs.declared.heads.Source.{Source}
use Rattle.pages.specs.declared.heads.Source.TheVariants.{Both, Only, Neither}
use Rattle.pages.specs.declared.deed.Step.{Step as StoreStep}
use Rattle.pages.specs.declared.waking.Stage.{Stage}
use Rattle.pages.specs.declared.waking.Stage.TheVariants.{Header, Mending, Wiping, Marking, Asking, Copying, Heading, Slot, Home}
use Rattle.pages.specs.declared.waking.Recovery.{Recovery}
use Rattle.pages.specs.declared.journal.Part.{Part}
use Rattle.pages.specs.declared.journal.Part.TheVariants.{Area, Slot as PartSlot, Head, Home as PartHome}
use Rattle.pages.specs.declared.journal.Commit.{Commit}
use Rattle.pages.proofs.ByteLists.{bytes_drop, bytes_take}
use Rattle.pages.proofs.Fields.{bytes_fields, length_fields, length_zeros}
use Rattle.pages.proofs.Header.{length_heads, heads_all_small}
use Rattle.pages.proofs.Parts.{length_placed}
use Rattle.pages.proofs.Small.{bytes_small, bytes_low, bytes_zeros, bytes_pad, at_small, small_at, small_more, small_take, small_drop, small_placed}
use Rattle.records.specs.declared.command.Command.{Command}
use Rattle.records.specs.declared.command.Command.TheVariants.{Join as JoinCommand, SetZone, Put, Change, DropEvent, Skip, Listing, Busy, Free, Next, Shown}
use Rattle.records.specs.Reader.{found, found_as, bytes_in}
use Rattle.records.specs.Does.{new_person, new_root, put_block}
use Rattle.records.proofs.Persons.{block_placed, length_person}
use Rattle.engine_next.specs.Memory.{start_memory, loaded, stored, name_in, with_name, root_in, with_root, head_in, with_head, with_batch}
use Rattle.engine_next.specs.Phases.{stage_number, part_number, phase_of}
use Rattle.engine_next.specs.Own.{own, fault, with_recovery, with_commit, starting, joining, scanning, counted, join_head, with_new_person, with_new_root, with_join_head, on_with, said_as, said_with, join_said, woken, woken_if, header_came, waking_page, waking_next, committed, committed_if, committing_page, committing_next, deciding, looking_from, root_came, names_came, people_came, joining_page, recovery_of, commit_of, page_in, next_in, page_with, next_with, step_of, guarded}
use Rattle.engine_next.specs.declared.registers.Registers.{Registers}
use Rattle.engine_next.specs.declared.phase.Join.{Join}
use Rattle.engine_next.specs.declared.phase.Join.TheVariants.{Root, Names, People}
use Rattle.engine_next.specs.declared.phase.Phase.{Phase}
use Rattle.engine_next.specs.declared.phase.Phase.TheVariants.{Idle, Waking, Committing, Joining, Telling}
use Rattle.engine_next.proofs.Start.{start_length}

-- SMALL REGISTERS
record Small (r : Registers) : Type 0 where
  phase_small : r.phase < 18446744073709551616
  pages_small : r.pages < 18446744073709551616
  at_is_small : r.at < 18446744073709551616
  side_small : r.side < 18446744073709551616
  long_small : r.long < 18446744073709551616
  people_small : r.people < 18446744073709551616
  weight_small : r.weight < 18446744073709551616

stage_small : (s : Stage) → stage_number s ≤ 12
stage_small s = grind (arith, nat_tests)

side_small : (s : Side) → side_number s ≤ 1
side_small s = grind (arith, nat_tests)

part_small : (p : Part) → part_number p ≤ 19
part_small p = grind (arith, nat_tests)

loaded_small : (m : List ℕ) → all_small m ≡ true → Small (loaded m)
unfolding loaded
loaded_small m h =
    record { phase_small = small_at m 0 h; pages_small = small_at m 1 h; at_is_small = small_at m 2 h; side_small = small_at m 3 h; long_small = small_at m 4 h; people_small = small_at m 5 h; weight_small = small_at m 6 h }

-- A LIST MADE FROM A MEMORY: it has so many numbers, which are small where those of the memory are
record Kept (m : List ℕ) (n : ℕ) (xs : List ℕ) : Type 0 where
  long : length xs ≡ n
  small : all_small m ≡ true → all_small xs ≡ true

kept_bytes : (m : List ℕ) (n : ℕ) (bs : List ℕ) → length bs ≡ n → all_bytes bs ≡ true → Kept m n bs
kept_bytes m n bs l h = record { long = l; small = λ s. bytes_small bs h }

kept_placed : {m : List ℕ} {n j : ℕ} {w xs : List ℕ} (k : ℕ) → Kept m j w → Kept m n xs → k + j ≤ n → Kept m n (placed k w xs)
kept_placed {m} {n} {j} {w} {xs} k g h l =
    record { long = length_placed k w xs (omega (arith, g.long, h.long)) ∙ h.long; small = λ s. small_placed k w xs (g.small s) (h.small s) }

abbrev Keeps : List ℕ → List ℕ → Type 0
Keeps m m₁ = Kept m 262144 m₁

kept_either : {m : List ℕ} (b : Bool) (s t : Step) → (b ≡ true → Keeps m s.memory) → (b ≡ false → Keeps m t.memory) → Keeps m (cond b s t).memory
kept_either true s t h k = h refl
kept_either false s t h k = k refl

kept_stored : {m m₁ : List ℕ} (r : Registers) → Keeps m m₁ → (all_small m ≡ true → Small r) → Keeps m (stored r m₁)
unfolding stored
kept_stored {m} {m₁} r h k =
    record {
      long = let l = h.long in simp length-drop (omega arith);
      small = λ s.
          let q = k s in
          small_more _ _ q.phase_small (small_more _ _ q.pages_small (small_more _ _ q.at_is_small (small_more _ _ q.side_small
          (small_more _ _ q.long_small (small_more _ _ q.people_small (small_more _ _ q.weight_small (small_drop 7 m₁ (h.small s))))))));
    }

-- AREAS
kept_name : {m m₁ : List ℕ} (bs : List ℕ) → length bs ≤ 64 → all_bytes bs ≡ true → Keeps m m₁ → Keeps m (with_name bs m₁)
unfolding with_name
kept_name {m} bs l b h = kept_placed 64 (kept_bytes m (length bs) bs refl b) h (omega arith)

kept_root : {m m₁ bs : List ℕ} → Kept m 512 bs → Keeps m m₁ → Keeps m (with_root bs m₁)
unfolding with_root
kept_root g h = kept_placed 3392 g h (omega arith)

kept_head : {m m₁ ws : List ℕ} → Kept m 32 ws → Keeps m m₁ → Keeps m (with_head ws m₁)
unfolding with_head
kept_head g h = kept_placed 3904 g h (omega arith)

kept_batch : {m m₁ bs : List ℕ} (i : ℕ) → i < 29 → Kept m 512 bs → Keeps m m₁ → Keeps m (with_batch i bs m₁)
unfolding with_batch
kept_batch i l g h = kept_placed (4416 + 512 * i) g h (omega arith)

head_kept : {m : List ℕ} (m₁ : List ℕ) → Keeps m m₁ → Kept m 32 (head_in m₁)
unfolding head_in
head_kept m₁ h = record { long = let l = h.long in simp (length-take, length-drop) (omega arith); small = λ s. small_take 32 (drop 3904 m₁) (small_drop 3904 m₁ (h.small s)) }

root_bytes : (m : List ℕ) → all_bytes (root_in m) ≡ true
unfolding root_in
root_bytes m = bytes_low (take 512 (drop 3392 m))

root_long : (m : List ℕ) → length m ≡ 262144 → length (root_in m) ≡ 512
unfolding root_in
root_long m l = simp (length-map, length-take, length-drop) (omega arith)

name_bytes : (n : ℕ) (m : List ℕ) → all_bytes (name_in n m) ≡ true
unfolding name_in
name_bytes n m = bytes_low (take n (drop 64 m))

page_kept : (m bs : List ℕ) → a_page bs ≡ true → Kept m 512 bs
page_kept m bs h = let p = and_parts _ _ h in kept_bytes m 512 bs (eqb-true _ _ p.0) p.1

heads_kept : (m bs : List ℕ) → a_page bs ≡ true → Kept m 32 (heads_of bs)
unfolding all_small
heads_kept m bs h = record { long = length_heads bs; small = λ s. heads_all_small bs h }

fresh_kept : (m : List ℕ) → Kept m 32 fresh_head
unfolding fresh_head
fresh_kept m = record { long = ap suc (length_zeros 31); small = λ s. small_more 1 (zeros 31) (lit< tt) (bytes_small (zeros 31) (bytes_zeros 31)) }

-- POWER COMES UP
record SmallRecovery (v : Recovery) : Type 0 where
  few : v.at ≤ 1048577
  one : v.side ≤ 1

recovery_small : (v : Recovery) (r : Registers) → SmallRecovery v → Small r → Small (with_recovery v r)
recovery_small v r h s = let n = stage_small v.stage in search rules

-- of a step, where there is one
unfoldable SmallStep : Option (StoreStep Recovery) → Type 0
SmallStep None = Unit
SmallStep (Some v) = SmallRecovery v.state

recovery_either : (b : Bool) (x y : StoreStep Recovery) → SmallRecovery x.state → SmallRecovery y.state → SmallRecovery (cond b x y).state
recovery_either true x y h k = h
recovery_either false x y h k = k

recovery_in_range : (b : Bool) (o : Option (StoreStep Recovery)) → (b ≡ true → SmallStep o) → SmallStep (cond b o None)
unfolding SmallStep
recovery_in_range true o h = h refl
recovery_in_range false o h = tt

wiped_small : (k : ℕ) (v : Recovery) → k ≤ 1048577 → SmallRecovery (wiped_from k v).state
wiped_small k v h = record { few = grind (arith, nat_tests); one = grind (arith, nat_tests) }

copied_small : (d : Side) (k : ℕ) (v : Recovery) → k ≤ 1048577 → SmallRecovery (copied_from d k v).state
copied_small d k v h = let l = side_small d in record { few = grind (arith, nat_tests); one = grind (arith, nat_tests) }

replayed_small : (ws : List ℕ) (i : ℕ) (v : Recovery) → i ≤ 1048577 → SmallRecovery (replayed_from ws i v).state
replayed_small ws i v h = record { few = grind (arith, nat_tests); one = grind (arith, nat_tests) }

brought_small : (s : Source) (v : Recovery) → SmallRecovery (brought s v).state
brought_small Both v = record { few = omega arith; one = omega arith }
brought_small (Only d) v = copied_small d 1 v (omega arith)
brought_small Neither v = wiped_small 1 v (omega arith)

hears_small : (s : Stage) (ws bs : List ℕ) (v : Recovery) → SmallRecovery (hears s ws bs v).state
hears_small s ws bs v = recovery_either (is_second s) _ _ (brought_small (source_of ws (heads_of bs)) v) (record { few = omega arith; one = omega arith })

homing_small : (o : Option ℕ) (d : Side) (v : Recovery) → v.at ≤ 1048576 → SmallStep (homing o d v)
unfolding SmallStep
homing_small None d v h = tt
homing_small (Some k) d v h = record { few = omega arith; one = omega arith }

ranged : (v : Recovery) (ws : List ℕ) → in_range v ws ≡ true → v.at ≤ 1048576
ranged v ws h = leb-true _ _ (and_parts _ _ (and_parts _ _ (and_parts _ _ h).0).1).0

page_at_small : (s : Stage) (ws : List ℕ) (v : Recovery) → v.at ≤ 1048576 → SmallStep (page_at s ws v)
unfolding SmallStep
page_at_small Asking ws v h = record { few = omega arith; one = side_small (side_at v.side) }
page_at_small (Slot d) ws v h = homing_small (home_of ws v.at) d v h
page_at_small (Header d) ws v h = tt
page_at_small Mending ws v h = tt
page_at_small Wiping ws v h = tt
page_at_small Marking ws v h = tt
page_at_small Copying ws v h = tt
page_at_small Heading ws v h = tt
page_at_small (Home d) ws v h = tt

next_at_small : (s : Stage) (ws : List ℕ) (v : Recovery) → v.at ≤ 1048576 → SmallStep (next_at s ws v)
unfolding SmallStep
next_at_small Wiping ws v h = wiped_small (v.at + 1) v (omega arith)
next_at_small Marking ws v h = copied_small First 1 v (omega arith)
next_at_small Copying ws v h = copied_small (side_at v.side) (v.at + 1) v (omega arith)
next_at_small (Home First) ws v h = record { few = omega arith; one = omega arith }
next_at_small (Home Second) ws v h = replayed_small ws (v.at + 1) v (omega arith)
next_at_small Mending ws v h = replayed_small ws 0 v (omega arith)
next_at_small Heading ws v h = replayed_small ws 0 v (omega arith)
next_at_small (Header d) ws v h = tt
next_at_small Asking ws v h = tt
next_at_small (Slot d) ws v h = tt

page_of_small : (v : Recovery) (ws : List ℕ) → SmallStep (page_of v ws)
page_of_small v ws = recovery_in_range (in_range v ws) _ (λ e. page_at_small v.stage ws v (ranged v ws e))

next_of_small : (v : Recovery) (ws : List ℕ) → SmallStep (next_of v ws)
next_of_small v ws = recovery_in_range (in_range v ws) _ (λ e. next_at_small v.stage ws v (ranged v ws e))

chosen_kept : {m : List ℕ} (b c : Bool) (ws vs : List ℕ) → Kept m 32 ws → Kept m 32 vs → Kept m 32 (cond b ws (cond c vs fresh_head))
chosen_kept true c ws vs h k = h
chosen_kept false true ws vs h k = k
chosen_kept {m} false false ws vs h k = fresh_kept m

heard_kept : {m : List ℕ} (b : Bool) (ws vs : List ℕ) → Kept m 32 ws → Kept m 32 vs → Kept m 32 (cond b (chosen ws vs) vs)
heard_kept true ws vs h k = chosen_kept (eqb (get_or ws 0 0) 1) (eqb (get_or vs 0 0) 1) ws vs h k
heard_kept false ws vs h k = k

-- A COMMIT
unfoldable SmallTurn : Option (StoreStep Commit) → Type 0
SmallTurn None = Unit
SmallTurn (Some t) = t.state.at ≤ 29

turn_either : (b : Bool) (x y : Option (StoreStep Commit)) → (b ≡ true → SmallTurn x) → SmallTurn y → SmallTurn (cond b x y)
turn_either true x y h k = h refl
turn_either false x y h k = k

slots_small : (ws : List ℕ) (i : ℕ) → i ≤ 29 → (slots_from ws i).state.at ≤ 29
slots_small ws i h = grind (arith, nat_tests)

commit_homing_small : (o : Option ℕ) (d : Side) (i : ℕ) → i ≤ 29 → SmallTurn (commit_homing o d i)
unfolding SmallTurn
commit_homing_small None d i h = tt
commit_homing_small (Some k) d i h = h

homes_small : (ws : List ℕ) (i : ℕ) → i ≤ 29 → SmallTurn (homes_from ws i)
unfolding SmallTurn
homes_small ws i h = turn_either (ltb i (get_or ws 2 0)) _ _ (λ e. commit_homing_small (home_of ws i) First i h) (omega arith)

commit_at_small : (p : Part) (ws : List ℕ) (i : ℕ) → i < 29 → SmallTurn (commit_next_at p ws i)
unfolding SmallTurn
commit_at_small (PartSlot First) ws i h = omega arith
commit_at_small (PartSlot Second) ws i h = slots_small ws (i + 1) (omega arith)
commit_at_small (Head First) ws i h = omega arith
commit_at_small (Head Second) ws i h = homes_small ws 0 (omega arith)
commit_at_small (PartHome First) ws i h = commit_homing_small (home_of ws i) Second i (omega arith)
commit_at_small (PartHome Second) ws i h = homes_small ws (i + 1) (omega arith)
commit_at_small Area ws i h = tt

commit_small : (c : Commit) (ws : List ℕ) → SmallTurn (commit_next_of c ws)
unfolding SmallTurn
commit_small c ws = turn_either (commit_in_range c ws) _ None (λ e. commit_at_small c.part ws c.at (ltb-true _ _ (and_parts _ _ e).0)) tt

opened_kept : {m ws : List ℕ} (bs : List ℕ) → Kept m 32 ws → Kept m 32 (opened ws bs)
opened_kept {m} {ws} bs h =
    record {
      long = let l = h.long in simp length-drop (omega arith);
      small = λ s. small_more 1 _ (lit< tt) (small_more _ (drop 2 ws) (bit_small (not (area bs))) (small_drop 2 ws (h.small s)));
    }
  where
    bit_small : (b : Bool) → bit b < 18446744073709551616
    bit_small true = lit< tt
    bit_small false = lit< tt

scanning_small : (p i : ℕ) (r : Registers) → p < 64 → i ≤ 64 → Small r → Small (scanning p i r)
scanning_small p i r l h s = search rules

registers_committing : (c : Commit) (r : Registers) → c.at ≤ 29 → Small r → Small (with_commit c r)
registers_committing c r l s = let n = part_small c.part in search rules

-- JOIN
counted_small : (a w : ℕ) (r : Registers) → a ≤ 256 → w < 18446744073709551616 → Small r → Small (counted a w r)
counted_small a w r h l s = search rules

joining_small : (n l : ℕ) → n ≤ 1048576 → l ≤ 64 → Small (joining n l)
joining_small n l h k = search rules

starting_small : (n : ℕ) (r : Registers) → n ≤ 1048576 → Small r → Small (starting n r)
starting_small n r h s = search rules

bytes_person : (name : List ℕ) → all_bytes name ≡ true → all_bytes (new_person name) ≡ true
unfolding new_person
bytes_person name h = bytes_fields (fd 1 (length name) ∷ fd 8 1 ∷ fd 4 0 ∷ []) (pad 115 name) (bytes_pad 115 name h)

new_root_kept : (m p : List ℕ) (c w k : ℕ) → length p ≡ 512 → all_bytes p ≡ true → Kept m 512 (new_root p c w k)
unfolding new_root
new_root_kept m p c w k l h =
    let fs = fd 8 c ∷ fd 8 w ∷ fd 8 k ∷ [] in
    kept_bytes m 512 _ (length_fields fs (drop 24 p) ∙ simp length-drop (omega arith)) (bytes_fields fs (drop 24 p) (bytes_drop 24 p h))

put_block_kept : {m p : List ℕ} (a : ℕ) (name : List ℕ) → all_bytes name ≡ true → Kept m 512 p → Kept m 512 (put_block (a % 4) (new_person name) p)
put_block_kept {m} {p} a name b h =
    rw (block_placed (a % 4) (new_person name) p (length_person name))
    (kept_placed (128 * (a % 4)) (kept_bytes m 128 (new_person name) (length_person name) (bytes_person name b)) h (omega arith))

join_head_kept : {m ws : List ℕ} (a : ℕ) → a < 256 → Kept m 32 ws → Kept m 32 (join_head a ws)
unfolding join_head
join_head_kept {m} {ws} a l h = kept_placed 2 three h (omega arith)
  where
    three : Kept m 3 (2 ∷ (a / 4 + 1) ∷ 0 ∷ [])
    three = record { long = refl; small = λ s. small_more 2 _ (lit< tt) (small_more (a / 4 + 1) _ (omega arith) (small_more 0 [] (lit< tt) (bytes_small [] refl))) }

-- only bytes are a command
found_bytes : (t : List ℕ) (c : Command) → found t ≡ Some c → all_bytes t ≡ true
unfolding found
found_bytes t c = go (ltb 0 (length t)) (all_bytes t) (found_as (get_or t 0 0) t)
  where
    go : (a b : Bool) (o : Option Command) → cond (a && b) o None ≡ Some c → b ≡ true
    go a true o e = refl
    go true false o e = cc
    go false false o e = cc

-- WHAT EACH STEP DOES to a memory made from the one that the registers were loaded from
module _ (m₀ : List ℕ) where
  abbrev Fit : Registers → Type 0
  Fit r = all_small m₀ ≡ true → Small r

  kept_woken : (v : StoreStep Recovery) (r : Registers) (bs : List ℕ) {m : List ℕ} → SmallRecovery v.state → Fit r → Keeps m₀ m → Keeps m₀ (woken v r bs m).memory
  kept_woken v r bs l s h = kept_stored _ h (λ a. recovery_small v.state r l (s a))

  kept_woken_if : (o : Option (StoreStep Recovery)) (r : Registers) (bs : List ℕ) {m : List ℕ} → SmallStep o → Fit r → Keeps m₀ m → Keeps m₀ (woken_if o r bs m).memory
  unfolding SmallStep
  kept_woken_if None r bs l s h = h
  kept_woken_if (Some v) r bs l s h = kept_woken v r bs l s h

  kept_header : (g : Stage) (r : Registers) (bs m : List ℕ) → a_page bs ≡ true → Fit r → Keeps m₀ m → Keeps m₀ (header_came g r bs m).memory
  kept_header g r bs m p s h =
      kept_woken (hears g (head_in m) bs (recovery_of g r)) r bs (hears_small g (head_in m) bs (recovery_of g r)) s
      (kept_head (heard_kept (is_second g) (head_in m) (heads_of bs) (head_kept m h) (heads_kept m₀ bs p)) h)

  kept_waking_page : (g : Stage) (r : Registers) (bs m : List ℕ) → a_page bs ≡ true → Fit r → Keeps m₀ m → Keeps m₀ (waking_page g r bs m).memory
  kept_waking_page g r bs m p s h = kept_either _ _ _ (λ e. kept_header g r bs m p s h) (λ e. kept_woken_if (page_of (recovery_of g r) (head_in m)) r bs (page_of_small (recovery_of g r) (head_in m)) s h)

  kept_waking_next : (g : Stage) (r : Registers) (m : List ℕ) → Fit r → Keeps m₀ m → Keeps m₀ (waking_next g r m).memory
  kept_waking_next g r m s h = kept_woken_if (next_of (recovery_of g r) (head_in m)) r [] (next_of_small (recovery_of g r) (head_in m)) s h

  kept_committed : (d : Deed) (c : Commit) (r : Registers) {m : List ℕ} → c.at ≤ 29 → Fit r → Keeps m₀ m → Keeps m₀ (committed d c r m).memory
  kept_committed Ready c r l s h = kept_stored _ h (λ a. scanning_small 23 0 r (lit< tt) (omega arith) (s a))
  kept_committed (Read i k) c r l s h = kept_stored _ h (λ a. registers_committing c r l (s a))
  kept_committed (Write i k x) c r l s h = kept_stored _ h (λ a. registers_committing c r l (s a))

  kept_committed_if : (o : Option (StoreStep Commit)) (r : Registers) {m : List ℕ} → SmallTurn o → Fit r → Keeps m₀ m → Keeps m₀ (committed_if o r m).memory
  unfolding SmallTurn
  kept_committed_if None r l s h = h
  kept_committed_if (Some t) r l s h = kept_committed t.deed t.state r l s h

  kept_committing_page : (p : Part) (r : Registers) (bs m : List ℕ) → Fit r → Keeps m₀ m → Keeps m₀ (committing_page p r bs m).memory
  kept_committing_page Area r bs m s h = kept_committed (opens (head_in m) bs).deed (opens (head_in m) bs).state r (slots_small (opened (head_in m) bs) 0 (omega arith)) s (kept_head (opened_kept bs (head_kept m h)) h)
  kept_committing_page (PartSlot d) r bs m s h = h
  kept_committing_page (Head d) r bs m s h = h
  kept_committing_page (PartHome d) r bs m s h = h

  kept_committing_next : (p : Part) (r : Registers) (m : List ℕ) → Fit r → Keeps m₀ m → Keeps m₀ (committing_next p r m).memory
  kept_committing_next p r m s h = kept_committed_if (commit_next_of (commit_of p r) (head_in m)) r (commit_small (commit_of p r) (head_in m)) s h

  kept_deciding : (r : Registers) {m : List ℕ} → Fit r → Keeps m₀ m → Keeps m₀ (deciding r m).memory
  unfolding deciding
  kept_deciding r s h = kept_either (leb 256 r.people) _ _ (λ e. h) (λ e. kept_either _ _ _ (λ e₁. kept_stored _ h (λ a. scanning_small 22 0 r (lit< tt) (omega arith) (s a))) (λ e₁. h))

  kept_looking : (i : ℕ) (r : Registers) {m : List ℕ} → i ≤ 64 → Fit r → Keeps m₀ m → Keeps m₀ (looking_from i r m).memory
  unfolding looking_from
  kept_looking i r l s h = kept_either _ _ _ (λ e. kept_stored _ h (λ a. scanning_small 21 i r (lit< tt) l (s a))) (λ e. kept_deciding r s h)

  kept_root_came : (r : Registers) (bs m : List ℕ) → a_page bs ≡ true → Fit r → Keeps m₀ m → Keeps m₀ (root_came r bs m).memory
  kept_root_came r bs m p s h =
      kept_either _ _ _
      (λ e. kept_looking 0 (counted (at 0 8 bs) (at 8 8 bs) r) (omega arith) (λ a. counted_small _ _ r (leb-true _ _ e) (at_small 8 bs (and_parts _ _ p).1) (s a)) (kept_root (page_kept m₀ bs p) h))
      (λ e. h)

  kept_names : (r : Registers) (bs m : List ℕ) → Fit r → Keeps m₀ m → Keeps m₀ (names_came r bs m).memory
  kept_names r bs m s h =
      kept_either (ltb r.at 64 && (leb r.people 256 && leb r.long 64)) _ _
      (λ e. let l : r.at < 64 = ltb-true _ _ (and_parts _ _ e).0 in kept_either _ _ _ (λ e₁. h) (λ e₁. kept_looking (r.at + 1) r (omega arith) s h))
      (λ e. h)

  kept_person : (r : Registers) (bs m : List ℕ) → a_page bs ≡ true → Keeps m₀ m → Keeps m₀ (with_new_person r bs m)
  kept_person r bs m p h = kept_batch 0 (lit< tt) (put_block_kept r.people (name_in r.long m) (name_bytes r.long m) (page_kept m₀ bs p)) h

  kept_new_root : (r : Registers) (m : List ℕ) → Keeps m₀ m → Keeps m₀ (with_new_root r m)
  kept_new_root r m h = kept_batch 1 (lit< tt) (new_root_kept m₀ (root_in m) _ _ _ (root_long m h.long) (root_bytes m)) h

  kept_join_head : (r : Registers) (m : List ℕ) → r.people < 256 → Keeps m₀ m → Keeps m₀ (with_join_head r m)
  kept_join_head r m l h = kept_head (join_head_kept r.people l (head_kept m h)) h

  kept_people : (r : Registers) (bs m : List ℕ) → a_page bs ≡ true → Fit r → Keeps m₀ m → Keeps m₀ (people_came r bs m).memory
  kept_people r bs m p s h =
      kept_either _ _ _
      (λ e. kept_stored _ (kept_join_head r _ (ltb-true _ _ (and_parts _ _ e).0) (kept_new_root r _ (kept_person r bs m p h))) (λ a. scanning_small 13 0 r (lit< tt) (omega arith) (s a)))
      (λ e. h)

  kept_joining : (j : Join) (r : Registers) (bs m : List ℕ) → a_page bs ≡ true → Fit r → Keeps m₀ m → Keeps m₀ (joining_page j r bs m).memory
  kept_joining Root r bs m p s h = kept_root_came r bs m p s h
  kept_joining Names r bs m p s h = kept_names r bs m s h
  kept_joining People r bs m p s h = kept_people r bs m p s h

  kept_join_said : (nm : List ℕ) (n : ℕ) {m : List ℕ} → all_bytes nm ≡ true → n ≤ 1048576 → Keeps m₀ m → Keeps m₀ (join_said nm n m).memory
  kept_join_said nm n b l h =
      kept_either _ _ _ (λ e. let k = leb-true _ _ e in kept_stored _ (kept_name nm k b h) (λ a. joining_small n (length nm) l k)) (λ e. h)

  kept_said_as : (o : Option Command) (t : List ℕ) (n : ℕ) {m : List ℕ} → ((c : Command) → o ≡ Some c → all_bytes t ≡ true) → n ≤ 1048576 → Keeps m₀ m → Keeps m₀ (said_as o t n m).memory
  kept_said_as None t n b l h = h
  kept_said_as (Some (JoinCommand p)) t n b l h = kept_join_said (bytes_in t p) n (bytes_take p.count (drop p.start t) (bytes_drop p.start t (b _ refl))) l h
  kept_said_as (Some (SetZone k z)) t n b l h = h
  kept_said_as (Some (Put a e)) t n b l h = h
  kept_said_as (Some (Change a k e)) t n b l h = h
  kept_said_as (Some (DropEvent a k)) t n b l h = h
  kept_said_as (Some (Skip a k d)) t n b l h = h
  kept_said_as (Some (Listing a x)) t n b l h = h
  kept_said_as (Some (Busy ps x)) t n b l h = h
  kept_said_as (Some (Free ps k x)) t n b l h = h
  kept_said_as (Some (Next a u)) t n b l h = h
  kept_said_as (Some (Shown a k)) t n b l h = h

  -- WHAT IS TOLD
  kept_page_in : (p : Phase) (r : Registers) (bs m : List ℕ) → a_page bs ≡ true → Fit r → Keeps m₀ m → Keeps m₀ (page_in p r bs m).memory
  kept_page_in (Waking g) r bs m p s h = kept_waking_page g r bs m p s h
  kept_page_in (Committing q) r bs m p s h = kept_committing_page q r bs m s h
  kept_page_in (Joining j) r bs m p s h = kept_joining j r bs m p s h
  kept_page_in Telling r bs m p s h = h
  kept_page_in Idle r bs m p s h = h

  kept_next_in : (p : Phase) (r : Registers) (m : List ℕ) → Fit r → Keeps m₀ m → Keeps m₀ (next_in p r m).memory
  kept_next_in (Waking g) r m s h = kept_waking_next g r m s h
  kept_next_in (Committing q) r m s h = kept_committing_next q r m s h
  kept_next_in Telling r m s h = kept_stored _ h (λ a. scanning_small 0 0 r (lit< tt) (omega arith) (s a))
  kept_next_in (Joining j) r m s h = h
  kept_next_in Idle r m s h = h

  kept_on : (n : ℕ) (r : Registers) (m : List ℕ) → Fit r → Keeps m₀ m → Keeps m₀ (on_with n r m).memory
  kept_on n r m s h = kept_either _ _ _ (λ e. kept_stored _ h (λ a. starting_small n r (leb-true _ _ (and_parts _ _ e).1) (s a))) (λ e. h)

  kept_said : (r : Registers) (t m : List ℕ) → Keeps m₀ m → Keeps m₀ (said_with r t m).memory
  kept_said r t m h = kept_either _ _ _ (λ e. kept_said_as (found t) t r.pages (found_bytes t) (leb-true _ _ (and_parts _ _ e).1) h) (λ e. h)

  kept_page : (r : Registers) (bs m : List ℕ) → Fit r → Keeps m₀ m → Keeps m₀ (page_with r bs m).memory
  kept_page r bs m s h = kept_either _ _ _ (λ e. kept_page_in (phase_of r.phase) r bs m (and_parts _ _ e).1 s h) (λ e. h)

  kept_next : (r : Registers) (m : List ℕ) → Fit r → Keeps m₀ m → Keeps m₀ (next_with r m).memory
  kept_next r m s h = kept_either _ _ _ (λ e. kept_next_in (phase_of r.phase) r m s h) (λ e. h)

kept_step : (m : List ℕ) (ev : Event) → length m ≡ 262144 → Keeps m (step_of m ev).memory
kept_step m ev l = go ev (record { long = l; small = λ s. s })
  where
    go : (ev : Event) → Keeps m m → Keeps m (step_of m ev).memory
    go (on n) h = kept_on m n (loaded m) m (loaded_small m) h
    go (said t) h = kept_said m (loaded m) t m h
    go (page bs) h = kept_page m (loaded m) bs m (loaded_small m) h
    go next h = kept_next m (loaded m) m (loaded_small m) h

-- a memory of any length
record Stays (m : List ℕ) (s : Step) : Type 0 where
  long : length s.memory ≡ length m
  small : all_small m ≡ true → all_small s.memory ≡ true

stays : (m : List ℕ) (ev : Event) → Stays m (guarded m ev)
stays m ev = go (eqb (length m) 262144) refl
  where
    go : (b : Bool) → eqb (length m) 262144 ≡ b → Stays m (cond b (step_of m ev) (fault m))
    go true e = let l = eqb-true _ _ e in let k = kept_step m ev l in record { long = k.long ∙ sym l; small = k.small }
    go false e = record { long = refl; small = λ s. s }

all_zero : (n : ℕ) → every (λ m. eqb m 0) (replicate n 0) ≡ true
all_zero zero = refl
all_zero (suc n) = all_zero n

start_zero : every (λ m. eqb m 0) start_memory ≡ true
unfolding start_memory
start_zero = all_zero 262144

pub steady : Steady own
unfolding Steady own
steady = (omega (arith, start_length), start_zero, λ m ev. let k = stays m ev in (k.long, k.small))
