-- Positions added to the covers one after the other.
use Rattle.std.proofs.Common.{◌≡◌, ℕ, zero, suc, ◌+◌, ◌<◌, ◌≤◌, List, [], ◌∷◌, Ok, length, get_or, map, set, take, ℤ, pos, ◌+ℤ◌, ◌≤ℤ◌, refl, sym, ap, subst, ◌∙◌, add-one, arith}
use Rattle.std.proofs.lemmas.Int.{ints}
use Rattle.std.proofs.lemmas.List.{get_or-map, length-map, map-set}
use Rattle.keeper.specs.Covers.{total, most_together}
use Rattle.keeper.specs.PayIns.{pay_in_answer}
use Rattle.keeper.specs.Offers.{Sound, NoneShort, moved, add_each}
use Rattle.keeper.proofs.Added.{add_each_at, add_each_length, moved_is}
use Rattle.books.proofs.Totals.{cover_le_total, total_added, total_paid, room_for}

none_added : (cs : List ℕ) → add_each cs [] ≡ cs
none_added [] = refl
none_added (c ∷ cs) = refl

-- the covers past the positions that were added are as they were
past : (cs : List ℕ) (ps : List ℤ) (i : ℕ) → get_or (add_each cs (take i ps)) i 0 ≡ get_or cs i 0
past [] ps i = refl
past (c ∷ cs) ps zero = refl
past (c ∷ cs) [] (suc i) = refl
past (c ∷ cs) (p ∷ ps) (suc i) = past cs ps i

more : (cs : List ℕ) (ps : List ℤ) (i : ℕ) → i < length cs → i < length ps
    → add_each cs (take (suc i) ps) ≡ set (add_each cs (take i ps)) i (moved (get_or cs i 0) (get_or ps i (pos 0)))
more [] ps i h k = absurd (omega arith)
more (c ∷ cs) [] i h k = absurd (omega arith)
more (c ∷ cs) (p ∷ ps) zero h k = ap (λ (xs : List ℕ). moved c p ∷ xs) (none_added cs)
more (c ∷ cs) (p ∷ ps) (suc i) h k = ap (λ (xs : List ℕ). moved c p ∷ xs) (more cs ps i (omega arith) (omega arith))

-- the cover of the account at a place
pub cover_at : {A : Type 0} (cover : A → ℕ) (xs : List A) (i : ℕ) (a : A) → a ≡ get_or xs i a → i < length xs → get_or (map cover xs) i 0 ≡ cover a
cover_at cover xs i a is h = get_or-map cover xs i a 0 h ∙ ap cover (sym is)

-- of the accounts, those before a place have their positions; next is this one
module _ {A : Type 0} (cover : A → ℕ) (before now : List A) (ps : List ℤ) (i : ℕ) (a : A)
    (long : length now ≡ length before) (s : Sound (length before) ps) (enough : NoneShort (map cover before) ps)
    (so_far : map cover now ≡ add_each (map cover before) (take i ps)) (here : i < length ps) (is : a ≡ get_or now i a) where
  next_is : cover a ≡ get_or (map cover before) i 0
  next_is =
      let e = s.long in
      sym (cover_at cover now i a is (omega arith)) ∙ ap (λ (xs : List ℕ). get_or xs i 0) so_far ∙ past (map cover before) ps i

  -- it has room for its position
  pub next_room : total (map cover before) ≤ most_together
      → (pos 0 ≤ℤ (pos (cover a) +ℤ get_or ps i (pos 0))) × ((pos (cover a) +ℤ get_or ps i (pos 0)) ≤ℤ pos most_together)
  next_room bounded =
      let w = s.long in
      let n = length-map before cover in
      let l = add_each_length (map cover before) ps in
      let e = next_is in
      let t = total_added (map cover before) ps (subst (λ (k : ℕ). Sound k ps) (sym n) s) enough in
      let b = cover_le_total (add_each (map cover before) ps) i 0 (omega arith) in
      let at = add_each_at (map cover before) ps (omega arith) enough i (omega arith) in
      (omega (arith, ints), omega (arith, ints))

  -- the position is added
  pub one_more : (x : A) → pos (cover x) ≡ pos (cover a) +ℤ get_or ps i (pos 0) → map cover (set now i x) ≡ add_each (map cover before) (take (i + 1) ps)
  one_more x e =
      let w = s.long in
      let n = length-map before cover in
      let same = next_is in
      let m = moved_is (get_or (map cover before) i 0) (get_or ps i (pos 0)) (enough i (omega arith)) in
      let v : cover x ≡ moved (get_or (map cover before) i 0) (get_or ps i (pos 0)) = omega (arith, ints) in
      rw add-one
      (map-set cover now i x ∙ ap (λ (xs : List ℕ). set xs i (cover x)) so_far
      ∙ ap (λ (k : ℕ). set (add_each (map cover before) (take i ps)) i k) v ∙ sym (more (map cover before) ps i (omega arith) here))

-- a pay-in that is taken, for the house at a place
module _ {A : Type 0} (cover : A → ℕ) (xs : List A) (place amount : ℕ) (done : Unit {0}) (taken : Ok done ≡ pay_in_answer (map cover xs) place amount)
    (a : A) (is : a ≡ get_or xs place a) where
  here : place < length xs
  here =
      let n = length-map xs cover in
      let h = (room_for (map cover xs) place amount done taken).here in
      omega arith

  pub paid_room : cover a + amount ≤ most_together
  paid_room =
      let n = length-map xs cover in
      let h = here in
      let r = (room_for (map cover xs) place amount done taken).room in
      let e = cover_at cover xs place a is here in
      let b = cover_le_total (map cover xs) place 0 (omega arith) in
      omega arith

  pub paid_covers : (x : A) → pos (cover x) ≡ pos (cover a) +ℤ pos amount
      → map cover (set xs place x) ≡ set (map cover xs) place (get_or (map cover xs) place 0 + amount)
  paid_covers x e =
      let c = cover_at cover xs place a is here in
      let v : cover x ≡ get_or (map cover xs) place 0 + amount = omega (arith, ints) in
      map-set cover xs place x ∙ ap (λ (k : ℕ). set (map cover xs) place k) v

  pub paid_total : (x : A) → pos (cover x) ≡ pos (cover a) +ℤ pos amount → total (map cover (set xs place x)) ≡ total (map cover xs) + amount
  paid_total x e =
      let h = (room_for (map cover xs) place amount done taken).here in
      ap total (paid_covers x e) ∙ total_paid (map cover xs) place (get_or (map cover xs) place 0) 0 amount h refl
