-- A content and its parts written together. Assumes nothing.
use Rattle.std.proofs.Common.{◌≡◌, ℕ, ◌+◌, ◌-◌, ◌≤◌, Bool, true, false, cond, ◌&&◌, List, [], ◌++◌, length, take, drop, Some, None, Option, refl, ap, ◌∙◌, subst, arith}
use Rattle.std.proofs.lemmas.List.{take_at, length-append, length-drop, length-take-le, drop_all}
use Rattle.std.proofs.lemmas.Bool.{and_parts, and_from, leb-true, le-leb, cond-true}
use Rattle.frames.specs.Fixed.{before_first, before_second, before_text, after_text, begins}
use Rattle.frames.specs.Layout.{Parts, shortest, parts_at, framed, permitted, blocks_of, IsContent, BlocksLaw}
use Rattle.frames.proofs.Begins.{begins_append}
use Rattle.frames.proofs.Places.{past, cut_at, fixed_at}

end_at : (c : List ℕ) → 52 ≤ length c → begins after_text (drop (length c - 2) c) ≡ true → drop 50 c ≡ take (length c - 52) (drop 50 c) ++ after_text
end_at c h k =
    let n : 50 + (length c - 52) ≡ length c - 2 = omega arith in
    let e : drop (50 + (length c - 52)) c ≡ drop (length c - 2) c = ap (λ i. drop i c) n in
    let z : drop (length c - 2 + 2) c ≡ [] = drop_all (length c - 2 + 2) c (omega arith) in
    cut_at c 50 (length c - 52) ∙ ap (λ u. take (length c - 52) (drop 50 c) ++ u) (e ∙ fixed_at c after_text (length c - 2) k ∙ ap (λ u. after_text ++ u) z)

size_at : (c : List ℕ) (i n : ℕ) → i + n ≤ length c → length (take n (drop i c)) ≡ n
size_at c i n h = length-take-le n (drop i c) (simp length-drop (omega arith))

read_is : (c : List ℕ) → framed c ≡ true → permitted (parts_at c) ≡ true → IsContent c (parts_at c)
read_is c h k =
    let a = and_parts _ _ h in
    let b = and_parts _ _ a.1 in
    let d = and_parts _ _ b.1 in
    let e = and_parts _ _ d.1 in
    let l = leb-true shortest (length c) a.0 in
    let t = end_at c l e.1 in
    let s = cut_at c 27 17 ∙ ap (λ u. take 17 (drop 27 c) ++ u) (fixed_at c before_text 44 e.0 ∙ ap (λ u. before_text ++ u) t) in
    let f = cut_at c 3 20 ∙ ap (λ u. take 20 (drop 3 c) ++ u) (fixed_at c before_second 23 d.0 ∙ ap (λ u. before_second ++ u) s) in
    (fixed_at c before_first 0 b.0 ∙ ap (λ u. before_first ++ u) f, size_at c 3 20 (omega arith), size_at c 27 17 (omega arith), k)

abbrev Read : Bool → Parts → Option Parts
Read v p = cond v (Some p) None

read_only : (v : Bool) (q p : Parts) → Read v q ≡ Some p → (v ≡ true) × (q ≡ p)
read_only true q p h = (refl, cc)
read_only false q p h = let z : ◌≡◌ {A = ℕ} 0 1 = cc in absurd (omega arith)

read_content : (c : List ℕ) (p : Parts) → blocks_of c ≡ Some p → IsContent c p
read_content c p h =
    let r = read_only (framed c && permitted (parts_at c)) (parts_at c) p h in
    let a = and_parts (framed c) (permitted (parts_at c)) r.0 in
    subst (IsContent c) r.1 (read_is c a.0 a.1)

written_content : (c : List ℕ) (p : Parts) → IsContent c p → blocks_of c ≡ Some p
written_content c p h =
    let at_text = p.text ++ after_text in
    let at_second = p.second ++ (before_text ++ at_text) in
    let at_first = p.first ++ (before_second ++ at_second) in
    let d3 : drop 3 c ≡ at_first = ap (drop 3) h.0 in
    let d23 : drop 23 c ≡ before_second ++ at_second = past c p.first _ 3 20 d3 h.1 in
    let d27 : drop 27 c ≡ at_second = past c before_second at_second 23 4 d23 refl in
    let d44 : drop 44 c ≡ before_text ++ at_text = past c p.second _ 27 17 d27 h.2 in
    let d50 : drop 50 c ≡ at_text = past c before_text at_text 44 6 d44 refl in
    let n : length (drop 50 c) ≡ length p.text + 2 = ap length d50 ∙ length-append p.text after_text in
    let m : length (drop 50 c) ≡ length c - 50 = length-drop 50 c in
    let size : length p.text ≡ length c - 52 = omega arith in
    let final : drop (length c - 2) c ≡ after_text = ap (λ i. drop i c) (omega arith) ∙ past c p.text after_text 50 (length p.text) d50 refl in
    let first : take 20 (drop 3 c) ≡ p.first = ap (take 20) d3 ∙ take_at p.first _ 20 h.1 in
    let second : take 17 (drop 27 c) ≡ p.second = ap (take 17) d27 ∙ take_at p.second _ 17 h.2 in
    let text : take (length c - 52) (drop 50 c) ≡ p.text = ap (take (length c - 52)) d50 ∙ take_at p.text after_text (length c - 52) size in
    let parts : parts_at c ≡ p = λ i. record { first = first i; second = second i; text = text i } in
    let opens : begins before_first c ≡ true = ap (begins before_first) h.0 ∙ begins_append before_first at_first in
    let joins : begins before_second (drop 23 c) ≡ true = ap (begins before_second) d23 ∙ begins_append before_second at_second in
    let leads : begins before_text (drop 44 c) ≡ true = ap (begins before_text) d44 ∙ begins_append before_text at_text in
    let ends : begins after_text (drop (length c - 2) c) ≡ true = ap (begins after_text) final in
    let whole : framed c ≡ true = and_from _ _ (le-leb 52 (length c) (omega arith)) (and_from _ _ opens (and_from _ _ joins (and_from _ _ leads ends))) in
    cond-true _ _ None (and_from _ _ whole (ap permitted parts ∙ h.3)) ∙ ap Some parts

pub blocks_law : BlocksLaw
blocks_law c p = (read_content c p, written_content c p)
