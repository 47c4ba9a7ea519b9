-- The keys of the items, and their order where a key may be missing. Assumes nothing.
use Rattle.std.proofs.Common.{◌≡◌, ℕ, ◌<◌, Bool, true, false, List, map, length, is_some, Some, None, Option, sym, ap, ◌∙◌, subst, ⊎_elim}
use Rattle.std.proofs.lemmas.List.{get_or_past, length-map}
use Rattle.std.proofs.lemmas.Bool.{false≢true, both_ways, cases_lt}
use Rattle.index.specs.Order.{key_of, precedes}

-- a number that has a key is that of an item
pub below : {K : Type 0} (ks : List (Option K)) (n : ℕ) → is_some (key_of ks n) ≡ true → n < length ks
below ks n some = ⊎_elim
    (λ lt. lt)
    (λ past. absurd (false≢true (ap is_some (sym (get_or_past ks n None past)) ∙ some)))
    (cases_lt n (length ks))

pub item_below : {T K : Type 0} (key : T → Option K) (xs : List T) (n : ℕ) → is_some (key_of (map key xs) n) ≡ true → n < length xs
item_below key xs n some = subst (λ m. n < m) (length-map xs key) (below (map key xs) n some)

-- no optional key precedes itself
pub precedes_irreflexive : {K : Type 0} (before : K → K → Bool) → ((x : K) → before x x ≡ false) → (a : Option K) → precedes before a a ≡ true → ⊥
precedes_irreflexive before irrefl None p = false≢true p
precedes_irreflexive before irrefl (Some x) p = both_ways (before x x) (irrefl x) p
