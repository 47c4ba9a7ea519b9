-- The parts of a block, read from where they are written. Assumes nothing.
use Rattle.std.proofs.Common.{◌≡◌, ℕ, ◌+◌, List, ◌++◌, length, take, drop, refl, ap, ◌∙◌}
use Rattle.std.proofs.lemmas.List.{take_at}
use Rattle.frames.specs.Layout.{Named, bic_size, branch_size, type_size, named_at, SenderLaw, ReceiverLaw}
use Rattle.frames.proofs.Places.{past}

named_read : (b : List ℕ) (n : Named) (g h : List ℕ) (i : ℕ) → drop i b ≡ n.bic ++ (g ++ (n.branch ++ h)) → length n.bic ≡ bic_size → length g ≡ 1 → length n.branch ≡ branch_size → named_at b i (i + bic_size + 1) ≡ n
named_read b n g h i e p q r =
    let x = past b n.bic (g ++ (n.branch ++ h)) i bic_size e p in
    let y = past b g (n.branch ++ h) (i + bic_size) 1 x q in
    let u : take bic_size (drop i b) ≡ n.bic = ap (take bic_size) e ∙ take_at n.bic _ bic_size p in
    let v : take branch_size (drop (i + bic_size + 1) b) ≡ n.branch = ap (take branch_size) y ∙ take_at n.branch h branch_size r in
    λ k. record { bic = u k; branch = v k }

pub sender_law : SenderLaw
sender_law n f g h e p q r =
    let b = f ++ (n.bic ++ (g ++ (n.branch ++ h))) in
    named_read b n g h 3 (past b f _ 0 3 refl e) p q r

pub receiver_law : ReceiverLaw
receiver_law n t f g h e w p q r =
    let named = n.bic ++ (g ++ (n.branch ++ h)) in
    let b = f ++ (t ++ named) in
    let x = past b f (t ++ named) 0 1 refl e in
    (ap (take type_size) x ∙ take_at t named type_size w, named_read b n g h 4 (past b t named 1 3 x w) p q r)
