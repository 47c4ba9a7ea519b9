-- What an index in order says: numbers of items, in strictly rising order of the items' keys. Assumes nothing.
--     before     the strict order of the keys
--     ks         the items' keys, by number; an item may have none
--     ns         the numbers that the index holds
use Rattle.std.specs.declared.cmp.Ordering.{Ordering}
use Rattle.std.specs.Ordering.{is_lt}
use Rattle.std.specs.Prelude.{◌≡◌, ℕ, ◌<◌, ◌≤◌, Bool, true, false, ◌||◌, List, [], ◌∷◌, length, is_some, Some, None, Ok, Err, Option, Result, ◌==◌, ◌≢◌, slice_index, slice_index_or}

-- the key of the item n: none where the item has none, and none past the last item
abbrev pub key_of : {K : Type 0} → List (Option K) → ℕ → Option K
key_of ks n = slice_index_or ks n None

-- the key of the item whose number stands at the place i
abbrev pub key_at : {K : Type 0} → List (Option K) → List ℕ → ℕ → Option K
key_at ks ns i = key_of ks (slice_index ns i)

-- a key is before another where it compares as less
abbrev pub less : {K : Type 0} → (K → K → Ordering) → K → K → Bool
less cmp x y = is_lt (cmp x y)

-- both keys are there, and the first is before the second
abbrev pub precedes : {K : Type 0} → (K → K → Bool) → Option K → Option K → Bool
precedes before None k = false
precedes before (Some x) None = false
precedes before (Some x) (Some y) = before x y

-- the number n stands among the numbers
abbrev pub listed : List ℕ → ℕ → Bool
listed [] n = false
listed (m ∷ ms) n = m == n || listed ms n

-- each number is that of an item with a key
abbrev pub Known : {K : Type 0} → List (Option K) → List ℕ → Type 0
Known ks ns = (i : ℕ) → i < length ns → is_some (key_at ks ns i) ≡ true

-- the key of a number that stands earlier is before that of one that stands later
abbrev pub Rising : {K : Type 0} → (K → K → Bool) → List (Option K) → List ℕ → Type 0
Rising before ks ns = (i j : ℕ) → (i < j) × (j < length ns) → precedes before (key_at ks ns i) (key_at ks ns j) ≡ true

-- the invariant of an index
abbrev pub Indexed : {K : Type 0} → (K → K → Bool) → List (Option K) → List ℕ → Type 0
Indexed before ks ns = Known ks ns × Rising before ks ns

-- each item with a key is among the numbers
abbrev pub Full : {K : Type 0} → List (Option K) → List ℕ → Type 0
Full ks ns = (n : ℕ) → is_some (key_of ks n) ≡ true → listed ns n ≡ true

-- the index holds exactly the items that have a key
abbrev pub Complete : {K : Type 0} → (K → K → Bool) → List (Option K) → List ℕ → Type 0
Complete before ks ns = Indexed before ks ns × Full ks ns

-- p is where k belongs: what stands earlier is before k, and k is before all others
pub record Gap {K : Type 0} (before : K → K → Bool) (ks : List (Option K)) (ns : List ℕ) (k : K) (p : ℕ) : Type 0 where
  pub place : p ≤ length ns
  pub lower : (i : ℕ) → i < p → precedes before (key_at ks ns i) (Some k) ≡ true
  pub upper : (i : ℕ) → p ≤ i → i < length ns → precedes before (Some k) (key_at ks ns i) ≡ true

-- the item n has the key k, and the index holds it
pub record Holds {K : Type 0} (ks : List (Option K)) (ns : List ℕ) (k : K) (n : ℕ) : Type 0 where
  pub among : listed ns n ≡ true
  pub same : key_of ks n ≡ Some k

-- no indexed item has the key k
abbrev pub Lacks : {K : Type 0} → List (Option K) → List ℕ → K → Type 0
Lacks ks ns k = (n : ℕ) → listed ns n ≡ true → key_of ks n ≢ Some k

-- what a search for k answers
abbrev pub Sought : {K : Type 0} → (K → K → Bool) → List (Option K) → List ℕ → K → Result ℕ ℕ → Type 0
Sought before ks ns k (Ok n) = Holds ks ns k n
Sought before ks ns k (Err p) = Gap before ks ns k p × Lacks ks ns k
