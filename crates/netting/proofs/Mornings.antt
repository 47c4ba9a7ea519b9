-- The worked mornings: every selection of three payments is one of eight.
use Rattle.std.proofs.Common.{◌≡◌, ℕ, zero, suc, ◌<◌, ◌≤◌, Bool, true, false, List, [], ◌∷◌, length, get_or, sym, refl, ◌∙◌, arith, lit<, lit≤}
use Rattle.std.proofs.lemmas.Bool.{both_ways}
use Rattle.records.specs.declared.recorded.Record.{Record}
use Rattle.records.specs.States.{waits}
use Rattle.netting.specs.Payments.{waiting}
use Rattle.netting.specs.Selections.{Selection, marked, Inside, Same, debit, Admissible, Greatest}
use Rattle.netting.specs.Mornings.{two_of_one, ring, WorkedMornings}
use Rattle.netting.proofs.Choice.{admissible_same}

agree : (A : Selection) (i : ℕ) → i < 3 → A i ≡ marked (A 0 ∷ A 1 ∷ A 2 ∷ []) i
agree A zero l = refl
agree A (suc zero) l = refl
agree A (suc (suc zero)) l = refl
agree A (suc (suc (suc i))) l = absurd (omega arith)

inside3 : (a b c x y z : Bool) → (a ≡ true → x ≡ true) → (b ≡ true → y ≡ true) → (c ≡ true → z ≡ true)
    → (i : ℕ) → i < 3 → marked (a ∷ b ∷ c ∷ []) i ≡ true → marked (x ∷ y ∷ z ∷ []) i ≡ true
inside3 a b c x y z f g h zero l = f
inside3 a b c x y z f g h (suc zero) l = g
inside3 a b c x y z f g h (suc (suc zero)) l = h
inside3 a b c x y z f g h (suc (suc (suc i))) l = absurd (omega arith)

of_eight : (rs : List Record) (covers : List ℕ) (S : Selection) → length rs ≡ 3 → Admissible rs covers S
    → ((a b c : Bool) → Admissible rs covers (marked (a ∷ b ∷ c ∷ [])) → Inside rs (marked (a ∷ b ∷ c ∷ [])) S)
    → Greatest rs covers S
of_eight rs covers S three fine each =
    record {
      admissible = fine;
      holds = λ A ok i l a.
          let same : Same rs A (marked (A 0 ∷ A 1 ∷ A 2 ∷ [])) = λ k b. agree A k (omega arith) in
          each (A 0) (A 1) (A 2) (admissible_same rs covers A (marked (A 0 ∷ A 1 ∷ A 2 ∷ [])) same ok) i l (sym (same i l) ∙ a);
    }

first_only_inside : (a b c : Bool) → Admissible two_of_one (30 ∷ 0 ∷ 0 ∷ []) (marked (a ∷ b ∷ c ∷ []))
    → Inside two_of_one (marked (a ∷ b ∷ c ∷ [])) (marked (true ∷ false ∷ false ∷ []))
first_only_inside false false false ok = inside3 _ _ _ _ _ _ (λ e. refl) (λ e. e) (λ e. e)
first_only_inside false false true ok = absurd (let z = ok.covered 1 (lit< tt) in omega arith)
first_only_inside false true false ok = absurd (both_ways false refl (ok.closed 0 1 (lit< tt) (lit< tt) (lit< tt) refl refl refl))
first_only_inside false true true ok = absurd (let z = ok.covered 1 (lit< tt) in omega arith)
first_only_inside true false false ok = inside3 _ _ _ _ _ _ (λ e. e) (λ e. e) (λ e. e)
first_only_inside true false true ok = absurd (let z = ok.covered 1 (lit< tt) in omega arith)
first_only_inside true true false ok = absurd (let z = ok.covered 0 (lit< tt) in omega arith)
first_only_inside true true true ok = absurd (let z = ok.covered 0 (lit< tt) in omega arith)

whole_ring_inside : (a b c : Bool) → Admissible ring (10 ∷ 0 ∷ 0 ∷ []) (marked (a ∷ b ∷ c ∷ []))
    → Inside ring (marked (a ∷ b ∷ c ∷ [])) (marked (true ∷ true ∷ true ∷ []))
whole_ring_inside a b c ok = inside3 a b c true true true (λ e. refl) (λ e. refl) (λ e. refl)

no_ring_inside : (a b c : Bool) → Admissible ring (5 ∷ 0 ∷ 0 ∷ []) (marked (a ∷ b ∷ c ∷ []))
    → Inside ring (marked (a ∷ b ∷ c ∷ [])) (marked (false ∷ false ∷ false ∷ []))
no_ring_inside false false false ok = inside3 _ _ _ _ _ _ (λ e. e) (λ e. e) (λ e. e)
no_ring_inside false false true ok = absurd (let z = ok.covered 2 (lit< tt) in omega arith)
no_ring_inside false true false ok = absurd (let z = ok.covered 1 (lit< tt) in omega arith)
no_ring_inside false true true ok = absurd (let z = ok.covered 1 (lit< tt) in omega arith)
no_ring_inside true false false ok = absurd (let z = ok.covered 0 (lit< tt) in omega arith)
no_ring_inside true false true ok = absurd (let z = ok.covered 0 (lit< tt) in omega arith)
no_ring_inside true true false ok = absurd (let z = ok.covered 0 (lit< tt) in omega arith)
no_ring_inside true true true ok = absurd (let z = ok.covered 0 (lit< tt) in omega arith)

all_wait : (p q r : Record) → waits p.state ≡ true → waits q.state ≡ true → waits r.state ≡ true
    → (i : ℕ) → i < 3 → waiting (p ∷ q ∷ r ∷ []) i ≡ true
all_wait p q r f g h zero l = f
all_wait p q r f g h (suc zero) l = g
all_wait p q r f g h (suc (suc zero)) l = h
all_wait p q r f g h (suc (suc (suc i))) l = absurd (omega arith)

covered3 : (rs : List Record) (S : Selection) (x y z : ℕ) → debit rs S 0 ≤ x → debit rs S 1 ≤ y → debit rs S 2 ≤ z
    → (h : ℕ) → h < 3 → debit rs S h ≤ get_or (x ∷ y ∷ z ∷ []) h 0
covered3 rs S x y z f g k zero l = f
covered3 rs S x y z f g k (suc zero) l = g
covered3 rs S x y z f g k (suc (suc zero)) l = k
covered3 rs S x y z f g k (suc (suc (suc i))) l = absurd (omega arith)

-- nothing is earlier than the first
first_closed : (i j : ℕ) → i < j → marked (true ∷ false ∷ false ∷ []) j ≡ true → marked (true ∷ false ∷ false ∷ []) i ≡ true
first_closed i zero before s = absurd (omega arith)
first_closed i (suc zero) before s = absurd (both_ways false refl s)
first_closed i (suc (suc zero)) before s = absurd (both_ways false refl s)
first_closed i (suc (suc (suc j))) before s = absurd (both_ways false refl s)

all_held : (i : ℕ) → i < 3 → marked (true ∷ true ∷ true ∷ []) i ≡ true
all_held zero l = refl
all_held (suc zero) l = refl
all_held (suc (suc zero)) l = refl
all_held (suc (suc (suc i))) l = absurd (omega arith)

none_held : (i : ℕ) → marked (false ∷ false ∷ false ∷ []) i ≡ true → ⊥
none_held zero s = both_ways false refl s
none_held (suc zero) s = both_ways false refl s
none_held (suc (suc zero)) s = both_ways false refl s
none_held (suc (suc (suc i))) s = both_ways false refl s

pub worked_mornings : WorkedMornings
worked_mornings =
    record {
      first_only = of_eight two_of_one _ _ refl
          (record {
            only = λ i l s. all_wait _ _ _ refl refl refl i l;
            closed = λ i j li lj before w e s. first_closed i j before s;
            covered = covered3 two_of_one (marked (true ∷ false ∷ false ∷ [])) 30 0 0 (lit≤ tt) (lit≤ tt) (lit≤ tt);
          })
          first_only_inside;
      whole_ring = of_eight ring _ _ refl
          (record {
            only = λ i l s. all_wait _ _ _ refl refl refl i l;
            closed = λ i j li lj before w e s. all_held i li;
            covered = covered3 ring (marked (true ∷ true ∷ true ∷ [])) 10 0 0 (lit≤ tt) (lit≤ tt) (lit≤ tt);
          })
          whole_ring_inside;
      no_ring = of_eight ring _ _ refl
          (record {
            only = λ i l s. absurd (none_held i s);
            closed = λ i j li lj before w e s. absurd (none_held j s);
            covered = covered3 ring (marked (false ∷ false ∷ false ∷ [])) 5 0 0 (lit≤ tt) (lit≤ tt) (lit≤ tt);
          })
          no_ring_inside;
    }
