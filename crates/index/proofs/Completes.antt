-- An index stays complete as items are added, and as they change in other things than their keys. Assumes nothing.
use Rattle.std.proofs.Common.{◌≡◌, ℕ, ◌+◌, ◌-◌, ◌<◌, ◌≤◌, Bool, true, false, List, [], ◌∷◌, ◌++◌, map, length, get_or, take, set, is_some, Some, None, Option, sym, refl, ap, ◌∙◌, subst, ⊎_elim, not-suc-le-zero, eq-or-lt_of_le, arith}
use Rattle.std.specs.List.{insert}
use Rattle.std.proofs.lemmas.List.Edits.{get_or-insert_below, get_or-insert_at, get_or-insert_above}
use Rattle.std.proofs.lemmas.Bool.{false≢true, cases_lt, cases_order}
use Rattle.std.proofs.lemmas.List.{get_or_append_left, get_or_push, length_push, get_or-map, map-set, map_push, set-get_or, take_more_set}
use Rattle.index.specs.Order.{key_of, key_at, precedes, listed, Known, Indexed, Complete, Gap, Lacks}
use Rattle.index.proofs.Optional.{below, precedes_irreflexive}
use Rattle.index.proofs.Listed.{places, standing, listed_new, listed_old}

module _ {K : Type 0} (before : K → K → Bool) where
  -- no items, no numbers
  pub empty : Complete before [] []
  empty = (((λ i h. absurd (not-suc-le-zero h)), (λ i j (a, h). absurd (not-suc-le-zero h))), λ n some. some)

  module _ (ks : List (Option K)) (ns : List ℕ) where
    -- an item more, with a key or without: those that were indexed have the keys that they had
    key_stays : Known ks ns → (o : Option K) (i : ℕ) → i < length ns → key_at (ks ++ o ∷ []) ns i ≡ key_at ks ns i
    key_stays known o i h = get_or_append_left ks (o ∷ []) None (get_or ns i 0) (below ks (get_or ns i 0) (known i h))

    pub indexed_more : (o : Option K) → Indexed before ks ns → Indexed before (ks ++ o ∷ []) ns
    indexed_more o held =
        let stays = key_stays held.0 o in (
          (λ i h. ap is_some (stays i h) ∙ held.0 i h),
          λ i j (lt, h).
              let a : i < length ns = omega arith in
              ap (λ x. precedes before x (key_at (ks ++ o ∷ []) ns j)) (stays i a) ∙ ap (precedes before (key_at ks ns i)) (stays j h) ∙ held.1 i j (lt, h),
        )

    pub gap_more : (o : Option K) (k : K) (p : ℕ) → Known ks ns → Gap before ks ns k p → Gap before (ks ++ o ∷ []) ns k p
    gap_more o k p known gap =
        let stays = key_stays known o in
        let place : p ≤ length ns = gap.place in
        record {
          place = place;
          lower = λ i h. let a : i < length ns = omega arith in ap (λ x. precedes before x (Some k)) (stays i a) ∙ gap.lower i h;
          upper = λ i g h. ap (precedes before (Some k)) (stays i h) ∙ gap.upper i g h;
        }

    -- the number of an item with the key k, at the place where k belongs
    pub indexed_inserted : (k : K) (p n : ℕ) → Indexed before ks ns → Gap before ks ns k p → key_of ks n ≡ Some k → Indexed before ks (insert ns p n)
    indexed_inserted k p n held gap named =
        let place : p ≤ length ns = gap.place in
        let at : ℕ → ℕ = λ a. get_or (insert ns p n) a 0 in
        let b : (a : ℕ) → a < p → at a ≡ get_or ns a 0 = λ a l. get_or-insert_below ns p n 0 a l place in
        let e : key_of ks (at p) ≡ Some k = ap (key_of ks) (get_or-insert_at ns p n 0 place) ∙ named in
        let u : (a : ℕ) → p ≤ a → at (a + 1) ≡ get_or ns a 0 = λ a g. get_or-insert_above ns p n 0 a g place in
        let P : Option K → Option K → Type 0 = λ x y. precedes before x y ≡ true in
        let both : (x y x' y' : Option K) → x ≡ x' → y ≡ y' → P x' y' → P x y = λ x y x' y' q r v. subst (λ z. P z y) (sym q) (subst (λ z. P x' z) (sym r) v) in (
          places ns p n place (λ i. is_some (key_of ks (at i)) ≡ true)
              (λ i l. ap (λ m. is_some (key_of ks m)) (b i l) ∙ held.0 i (omega arith))
              (ap is_some e)
              (λ i g h. ap (λ m. is_some (key_of ks m)) (u i g) ∙ held.0 i h),
          λ i j (lt, h). places ns p n place (λ j. (i : ℕ) → i < j → P (key_of ks (at i)) (key_of ks (at j)))
              (λ j l i lt. both _ _ _ _ (ap (key_of ks) (b i (omega arith))) (ap (key_of ks) (b j l)) (held.1 i j (lt, omega arith)))
              (λ i lt. both _ _ _ _ (ap (key_of ks) (b i lt)) e (gap.lower i lt))
              (λ j g w i lt. ⊎_elim
              (λ l. both _ _ _ _ (ap (key_of ks) (b i l)) (ap (key_of ks) (u j g)) (held.1 i j (omega arith, w)))
              (λ ge. ⊎_elim
              (λ q. subst (λ z. P (key_of ks (at z)) (key_of ks (at (j + 1)))) q (both _ _ _ _ e (ap (key_of ks) (u j g)) (gap.upper j g w)))
              (λ gt.
              let back : i - 1 + 1 ≡ i = omega arith in
              subst (λ z. P (key_of ks (at z)) (key_of ks (at (j + 1)))) back (both _ _ _ _ (ap (key_of ks) (u (i - 1) (omega arith))) (ap (key_of ks) (u j g)) (held.1 (i - 1) j (omega arith, w))))
              (eq-or-lt_of_le ge))
              (cases_lt i p))
              j h i lt,
        )

  module _ (ks : List (Option K)) (ns : List ℕ) where
    -- what holds of the items with a key, and of the new one if it has one
    last_or_before : (o : Option K) (P : ℕ → Type 0) → ((n : ℕ) → is_some (key_of ks n) ≡ true → P n) → (is_some o ≡ true → P (length ks)) → (n : ℕ) → is_some (key_of (ks ++ o ∷ []) n) ≡ true → P n
    last_or_before o P old new n some = ⊎_elim
        (λ lt. old n (ap is_some (sym (get_or_append_left ks (o ∷ []) None n lt)) ∙ some))
        (λ ge.
        let size : length (ks ++ o ∷ []) ≡ length ks + 1 = length_push ks o in
        let within : n < length (ks ++ o ∷ []) = below (ks ++ o ∷ []) n some in
        let last : length ks ≡ n = omega arith in
        subst P last (new (ap is_some (sym (get_or_push ks o None n last)) ∙ some)))
        (cases_lt n (length ks))

    -- an item without a key more: the index holds what it held
    pub complete_skipped : Complete before ks ns → Complete before (ks ++ None ∷ []) ns
    complete_skipped held = (
      indexed_more ks ns None held.0,
      last_or_before None (λ n. listed ns n ≡ true) held.1 (λ some. absurd (false≢true some)),
    )

    -- an item with the key k more, its number put in where k belongs
    pub complete_added : (k : K) (p : ℕ) → Complete before ks ns → Gap before ks ns k p → Complete before (ks ++ Some k ∷ []) (insert ns p (length ks))
    complete_added k p held gap =
        let new : ℕ = length ks in (
          indexed_inserted (ks ++ Some k ∷ []) ns k p new (indexed_more ks ns (Some k) held.0) (gap_more ks ns (Some k) k p held.0.0 gap) (get_or_push ks (Some k) None new refl),
          last_or_before (Some k) (λ n. listed (insert ns p new) n ≡ true) (λ n some. listed_old ns p new gap.place n (held.1 n some)) (λ some. listed_new ns p new gap.place),
        )

    -- a key that no indexed item has, no item has
    pub complete_lacks : (k : K) → Complete before ks ns → Lacks ks ns k → (n : ℕ) → key_of ks n ≡ Some k → ⊥
    complete_lacks k held lacks n same = lacks n (held.1 n (ap is_some same)) same

    -- no two items have the same key
    pub complete_apart : ((x : K) → before x x ≡ false) → (k : K) → Complete before ks ns → (m n : ℕ) → key_of ks m ≡ Some k → key_of ks n ≡ Some k → m ≡ n
    complete_apart irrefl k held m n a b =
        let i = standing ns m (held.1 m (ap is_some a)) in
        let j = standing ns n (held.1 n (ap is_some b)) in
        let at_i : key_at ks ns i.0 ≡ Some k = ap (key_of ks) i.2 ∙ a in
        let at_j : key_at ks ns j.0 ≡ Some k = ap (key_of ks) j.2 ∙ b in
        let P : Option K → Option K → Type 0 = λ x y. precedes before x y ≡ true in
        let never : (x y : Option K) → x ≡ Some k → y ≡ Some k → P x y → ⊥ = λ x y p q h. precedes_irreflexive before irrefl (Some k) (subst (λ z. P z (Some k)) p (subst (P x) q h)) in
        ⊎_elim
        (λ e. sym i.2 ∙ ap (λ l. get_or ns l 0) e ∙ j.2)
        (λ ne. ⊎_elim
        (λ lt. absurd (never _ _ at_i at_j (held.0.1 i.0 j.0 (lt, j.1))))
        (λ gt. absurd (never _ _ at_j at_i (held.0.1 j.0 i.0 (gt, i.1))))
        ne)
        (cases_order i.0 j.0)

-- one item more, stored behind the first n
pub keys_stored : {T K : Type 0} (key : T → Option K) (xs : List T) (n : ℕ) (x : T) → n < length xs → map key (take (n + 1) (set xs n x)) ≡ map key (take n xs) ++ key x ∷ []
keys_stored key xs n x h = ap (map key) (take_more_set xs n x h) ∙ map_push key (take n xs) x

-- an item changes, and keeps its key
pub keys_kept : {T K : Type 0} (key : T → Option K) (xs : List T) (n : ℕ) (x d : T) → n < length xs → key x ≡ key (get_or xs n d) → map key (set xs n x) ≡ map key xs
keys_kept key xs n x d h same =
    map-set key xs n x
    ∙ ap (set (map key xs) n) (same ∙ sym (get_or-map key xs n d None h))
    ∙ set-get_or (map key xs) n None
