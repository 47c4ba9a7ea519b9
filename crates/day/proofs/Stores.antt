-- Stores into the records, by a test.
use Rattle.std.proofs.Common.{◌≡◌, ℕ, zero, suc, ◌+◌, ◌<◌, ◌≤◌, Bool, true, false, List, [], ◌∷◌, ◌++◌, map, length, get_or, take, drop, set, sym, refl, ap, ◌∙◌, subst, inl, inr, arith}
use Rattle.std.proofs.lemmas.List.{ext_get_or, get_or-map, get_or-set_same, get_or-set_other, length-take-le, length-map, take_at}
use Rattle.std.proofs.lemmas.Bool.{cases_eq, both_ways}
use Rattle.records.specs.Records.{record_at, blank}
use Rattle.records.specs.States.{waits}
use Rattle.records.specs.declared.recorded.Record.{Record}
use Rattle.records.specs.declared.state.State.{State}
use Rattle.records.specs.declared.state.State.TheVariants.{SettledMorning}
use Rattle.netting.specs.Payments.{Proper, Listed}
use Rattle.day.specs.Changes.{put, stamp, PutWhere}

-- the test was asked of the first n records
pub record PutBelow (Says : ℕ → Record → Bool → Type 0) (s : State) (before after : List Record) (n : ℕ) : Type 0 where
  pub each : (k : ℕ) → k < n → (b : Bool) × Says k (record_at before k) b × (record_at after k ≡ put s b (record_at before k))
  pub rest : (k : ℕ) → n ≤ k → record_at after k ≡ record_at before k

-- and then of one more
pub put_more : (Says : ℕ → Record → Bool → Type 0) (s : State) (before xs after : List Record) (n : ℕ) (b : Bool) → n < length xs
    → PutBelow Says s before xs n → Says n (record_at xs n) b → after ≡ set xs n (put s b (record_at xs n)) → PutBelow Says s before after (n + 1)
put_more Says s before xs after n b l below says e =
    let same : record_at xs n ≡ record_at before n = below.rest n (omega arith) in
    let here = get_or-set_same xs n (put s b (record_at xs n)) blank l in
    record {
      each = λ k m.
          elim (cases_eq k n) [
            | inl q ↦ rw (q, e, here, same) (b, subst (λ (r : Record). Says n r b) same says, refl)
            | inr ne ↦ rw (e, get_or-set_other xs n k (put s b (record_at xs n)) blank ne) (below.each k (omega arith))
          ];
      rest = λ k m. rw (e, get_or-set_other xs n k (put s b (record_at xs n)) blank (omega arith)) (below.rest k (omega arith));
    }

pub put_all : (Says : ℕ → Record → Bool → Type 0) (s : State) (before after : List Record) (n : ℕ) → length after ≡ length before
    → length before ≤ n → PutBelow Says s before after n → PutWhere Says s before after
put_all Says s before after n e l below = record { long = e; each = λ k m. below.each k (omega arith) }

-- the first n stand before those past them
pub first_put : (Says : ℕ → Record → Bool → Type 0) (s : State) (n : ℕ) (rs xs : List Record) → n ≤ length rs
    → PutWhere Says s (take n rs) xs → take n (xs ++ drop n rs) ≡ xs
first_put Says s n rs xs l p = take_at xs (drop n rs) n (p.long ∙ length-take-le n rs l)

-- into a state in which it does not wait, any record may go
put_proper : (s : State) (h : ℕ) (b : Bool) (r : Record) → waits s ≡ false → (waits r.state ≡ true → Proper h r)
    → waits (put s b r).state ≡ true → Proper h (put s b r)
put_proper s h true r out proper w = absurd (both_ways (waits s) out w)
put_proper s h false r out proper w = proper w

pub listed_put : (Says : ℕ → Record → Bool → Type 0) (s : State) (h : ℕ) (before after : List Record) → waits s ≡ false
    → PutWhere Says s before after → Listed h before → Listed h after
listed_put Says s h before after out p listed =
    record {
      few = rw p.long listed.few;
      each = λ k m w.
          let l : k < length before = omega (arith, p.long) in
          let (b, says, e) = p.each k l in
          rw e (put_proper s h b (record_at before k) out (listed.each k l) (sym (ap (λ (r : Record). waits r.state) e) ∙ w));
    }

-- the list that has at each place what the test makes of the record there
put_told : (Says : ℕ → Record → Bool → Type 0) (s : State) (test : ℕ → Record → Bool) (before after told : List Record)
    → ((k : ℕ) (r : Record) (b : Bool) → Says k r b → b ≡ test k r) → length told ≡ length before
    → ((k : ℕ) → k < length before → record_at told k ≡ put s (test k (record_at before k)) (record_at before k))
    → PutWhere Says s before after → after ≡ told
put_told Says s test before after told tells long each p =
    ext_get_or blank after told (p.long ∙ sym long) (λ k m.
    let l : k < length before = omega (arith, p.long) in
    let (b, says, e) = p.each k l in
    e ∙ ap (λ x. put s x (record_at before k)) (tells k (record_at before k) b says) ∙ sym (each k l))

-- a test of the record alone
pub put_map : (Says : ℕ → Record → Bool → Type 0) (s : State) (test : Record → Bool) (before after : List Record)
    → ((k : ℕ) (r : Record) (b : Bool) → Says k r b → b ≡ test r) → PutWhere Says s before after → after ≡ map (λ r. put s (test r) r) before
put_map Says s test before after tells =
    put_told Says s (λ k. test) before after (map (λ r. put s (test r) r) before) tells (length-map before _) (λ k m. get_or-map _ before k blank blank m)

-- marks, one a place
pub length_stamp : (bs : List Bool) (rs : List Record) → length (stamp bs rs) ≡ length rs
length_stamp [] rs = refl
length_stamp (b ∷ bs) [] = refl
length_stamp (b ∷ bs) (r ∷ rs) = ap suc (length_stamp bs rs)

pub stamp_at : (bs : List Bool) (rs : List Record) (k : ℕ) → k < length rs
    → record_at (stamp bs rs) k ≡ put SettledMorning (get_or bs k false) (record_at rs k)
stamp_at [] rs k m = refl
stamp_at (b ∷ bs) [] k m = absurd (omega arith)
stamp_at (b ∷ bs) (r ∷ rs) zero m = refl
stamp_at (b ∷ bs) (r ∷ rs) (suc k) m = stamp_at bs rs k (omega arith)

pub put_stamp : (Says : ℕ → Record → Bool → Type 0) (bs : List Bool) (before after : List Record)
    → ((k : ℕ) (r : Record) (b : Bool) → Says k r b → b ≡ get_or bs k false) → PutWhere Says SettledMorning before after
    → after ≡ stamp bs before
put_stamp Says bs before after tells =
    put_told Says SettledMorning (λ k r. get_or bs k false) before after (stamp bs before) tells (length_stamp bs before) (stamp_at bs before)
