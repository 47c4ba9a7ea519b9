-- A text and its rows put together. Assumes nothing.
use Rattle.std.proofs.Common.{◌≡◌, ℕ, suc, ◌+◌, ◌<◌, ◌≤◌, Bool, true, false, cond, ◌&&◌, eqb, List, [], ◌∷◌, ◌++◌, length, get_or, take, drop, sym, refl, ap, ◌∙◌, subst, inl, inr, arith}
use Rattle.std.specs.Str.{bytes_eq}
use Rattle.std.proofs.lemmas.Slice.Eq.{bytes_eq-Decides}
use Rattle.std.proofs.lemmas.List.{take-append-drop, append_assoc, length-append, length-take-le, length-drop}
use Rattle.std.proofs.lemmas.Bool.{cond-true, cond-false, and_parts, and_left, and_right, and_from, eq-eqb, eqb-true, cases_Bool, true≢false}
use Rattle.std.proofs.lemmas.Bool.Decides.{eqb_tells, leb_tells}
use Rattle.text.specs.Chars.{belongs, every, leading}
use Rattle.text.specs.declared.class.Class.TheVariants.{Permitted}
use Rattle.text.specs.Rows.{is_cr_lf, crlf, on_first, rows_of, put}
use Rattle.text.specs.Texts.{begun, row_formed, rows_formed, opens, good, formed, IsText, TextLaw}
use Rattle.text.proofs.Cuts.{rows_cut, crlf_le, crlf_cons, crlf_here}

same_front : (p x y : List ℕ) → bytes_eq (p ++ x) (p ++ y) ≡ bytes_eq x y
same_front [] x y = refl
same_front (b ∷ p) x y = ap (λ v. v && bytes_eq (p ++ x) (p ++ y)) (eq-eqb b b refl) ∙ same_front p x y

abbrev Split : List ℕ → List ℕ → Type 0
Split t u = 2 ≤ length u → u ≡ 13 ∷ 10 ∷ drop 2 u

split_by : (b c : ℕ) (t : List ℕ) → Split (c ∷ t) (drop (crlf (c ∷ t)) (c ∷ t)) → (v : Bool) → is_cr_lf b c ≡ v → Split (b ∷ c ∷ t) (drop (cond v 0 (suc (crlf (c ∷ t)))) (b ∷ c ∷ t))
split_by b c t ih true e h =
    let p = and_parts (eqb b 13) (eqb c 10) e in
    let x = eqb-true b 13 p.0 in
    let y = eqb-true c 10 p.1 in
    λ i. x i ∷ y i ∷ t
split_by b c t ih false e h = ih h

crlf_split : (t : List ℕ) → Split t (drop (crlf t) t)
crlf_split [] h = absurd (omega arith)
crlf_split (b ∷ []) h = absurd (omega arith)
crlf_split (b ∷ c ∷ t) h = split_by b c t (crlf_split (c ∷ t)) (is_cr_lf b c) refl h

text_split : (t : List ℕ) → 2 ≤ length (drop (crlf t) t) → t ≡ (take (crlf t) t ++ 13 ∷ 10 ∷ []) ++ drop 2 (drop (crlf t) t)
text_split t h =
    sym (take-append-drop (crlf t) t) ∙ ap (λ u. take (crlf t) t ++ u) (crlf_split t h) ∙ sym (append_assoc (take (crlf t) t) (13 ∷ 10 ∷ []) (drop 2 (drop (crlf t) t)))

good_on : (t : List ℕ) → 0 < length t → 2 ≤ length (drop (crlf t) t) → row_formed (take (crlf t) t) ≡ true → good t ≡ good (drop 2 (drop (crlf t) t))
good_on t h l ok =
    let rest = drop 2 (drop (crlf t) t) in
    let a : bytes_eq (put (rows_of t)) t ≡ bytes_eq (put (rows_of rest)) rest = (λ i. bytes_eq (put (rows_cut t h i)) (text_split t l i)) ∙ same_front (take (crlf t) t ++ 13 ∷ 10 ∷ []) (put (rows_of rest)) rest in
    let b : rows_formed (rows_of t) ≡ rows_formed (rows_of rest) = ap rows_formed (rows_cut t h) ∙ ap (λ v. v && rows_formed (rows_of rest)) ok in
    λ i. a i && b i

good_cut : (t : List ℕ) → 0 < length t → length (drop (crlf t) t) < 2 → good t ≡ false
good_cut t h l =
    let rest = drop 2 (drop (crlf t) t) in
    and_left (bytes_eq (put (rows_of t)) t) (rows_formed (rows_of t)) (elim (cases_Bool (bytes_eq (put (rows_of t)) t)) [
      | inr e ↦ e
      | inl e ↦
          let q : put (rows_of t) ≡ t = (bytes_eq-Decides (put (rows_of t)) t).0 e in
          let r : (take (crlf t) t ++ 13 ∷ 10 ∷ []) ++ put (rows_of rest) ≡ t = sym (ap put (rows_cut t h)) ∙ q in
          let n : length (take (crlf t) t) + 2 + length (put (rows_of rest)) ≡ length t = simp length-append at (ap length r) in
          let k : length (take (crlf t) t) ≡ crlf t = length-take-le (crlf t) t (crlf_le t) in
          let m = length-drop (crlf t) t in
          let le = crlf_le t in
          absurd (omega arith)
    ])

good_bad : (t : List ℕ) → 0 < length t → row_formed (take (crlf t) t) ≡ false → good t ≡ false
good_bad t h e = and_right _ _ (ap rows_formed (rows_cut t h) ∙ and_left _ _ e)

-- of formed rows, those after the first are formed
good_rest : (t : List ℕ) → 0 < length t → good t ≡ true → good (drop 2 (drop (crlf t) t)) ≡ true
good_rest t h g =
    elim (cases_Bool (row_formed (take (crlf t) t))) [
      | inr bad ↦ absurd (true≢false (sym g ∙ good_bad t h bad))
      | inl ok ↦ elim (leb_tells 2 (length (drop (crlf t) t))) [
        | inr short ↦ absurd (true≢false (sym g ∙ good_cut t h short.1))
        | inl l ↦ sym (good_on t h l.1 ok) ∙ g
      ]
    ]

pub good_next : (t after rest : List ℕ) (k : ℕ) → 0 < length t → k ≡ crlf t → after ≡ drop k t → rest ≡ drop 2 after → good t ≡ true → good rest ≡ true
good_next t after rest k h e g r ok = ap good (r ∙ ap (drop 2) (g ∙ ap (λ n. drop n t) e)) ∙ good_rest t h ok

not_cr : (b c : ℕ) → belongs Permitted b ≡ true → is_cr_lf b c ≡ false
not_cr b c h = elim (eqb_tells b 13) [ inl e ↦ absurd (true≢false (sym h ∙ ap (belongs Permitted) e.1)) | inr e ↦ and_left _ _ e.0 ]

-- the bytes before the first that is not permitted, and what stands there
abbrev run : List ℕ → ℕ
run t = leading (belongs Permitted) t

abbrev Ends : List ℕ → ℕ → Type 0
Ends t k = is_cr_lf (get_or (drop k t) 0 0) (get_or (drop k t) 1 0) ≡ true

-- permitted bytes up to a CrLf are a row
abbrev Run : List ℕ → ℕ → Type 0
Run t k = Ends t k → (crlf t ≡ k) × (every (belongs Permitted) (take k t) ≡ true)

run_by : (b : ℕ) (t : List ℕ) (v : Bool) → belongs Permitted b ≡ v → Run t (run t) → Run (b ∷ t) (cond v (suc (run t)) 0)
run_by b t true e ih h =
    let q = ih h in
    (crlf_cons b t (not_cr b (get_or t 0 0) e) ∙ ap suc q.0, and_from (belongs Permitted b) (every (belongs Permitted) (take (run t) t)) e q.1)
run_by b t false e ih h = (crlf_here b t h, refl)

run_row : (t : List ℕ) → Run t (run t)
run_row [] h = absurd (true≢false (sym h))
run_row (b ∷ t) h = run_by b t (belongs Permitted b) refl (run_row t) h

run_over : (r u : List ℕ) → every (belongs Permitted) r ≡ true → run (r ++ 13 ∷ u) ≡ length r
run_over [] u h = refl
run_over (b ∷ r) u h =
    let p = and_parts (belongs Permitted b) (every (belongs Permitted) r) h in
    cond-true (belongs Permitted b) _ _ p.0 ∙ ap suc (run_over r u p.1)

drop_over : (r u : List ℕ) → drop (length r) (r ++ u) ≡ u
drop_over [] u = refl
drop_over (b ∷ r) u = drop_over r u

-- formed rows: the first ends where its permitted bytes end
good_run : (t : List ℕ) → 0 < length t → good t ≡ true → Ends t (run t)
good_run t h g =
    elim (cases_Bool (row_formed (take (crlf t) t))) [
      | inr bad ↦ absurd (true≢false (sym g ∙ good_bad t h bad))
      | inl ok ↦ elim (leb_tells 2 (length (drop (crlf t) t))) [
        | inr short ↦ absurd (true≢false (sym g ∙ good_cut t h short.1))
        | inl l ↦
            let row = take (crlf t) t in
            let tail = 13 ∷ 10 ∷ drop 2 (drop (crlf t) t) in
            let all : every (belongs Permitted) row ≡ true = (and_parts (every (belongs Permitted) row) (begun row) ok).0 in
            let e : t ≡ row ++ tail = sym (take-append-drop (crlf t) t) ∙ ap (λ u. row ++ u) (crlf_split t l.1) in
            let d : drop (run t) t ≡ tail = (λ i. drop (run (e i)) (e i)) ∙ ap (λ k. drop k (row ++ tail)) (run_over row (10 ∷ drop 2 (drop (crlf t) t)) all) ∙ drop_over row tail in
            ap (λ u. is_cr_lf (get_or u 0 0) (get_or u 1 0)) d
      ]
    ]

two_there : (u : List ℕ) → is_cr_lf (get_or u 0 0) (get_or u 1 0) ≡ true → 2 ≤ length u
two_there [] h = absurd (true≢false (sym h))
two_there (x ∷ []) h = absurd (true≢false (sym (and_parts (eqb x 13) false h).1))
two_there (x ∷ y ∷ u) h = omega arith

-- what the code has in hand: the run's length, and what follows it
pub record Turn (t after : List ℕ) (k : ℕ) : Type 0 where
  pub some : 0 < length t
  pub long : k ≡ run t
  pub tail : after ≡ drop k t

abbrev ended : List ℕ → Bool
ended u = is_cr_lf (get_or u 0 0) (get_or u 1 0)

ends_at : (t after : List ℕ) (k : ℕ) → Turn t after k → ended (drop (run t) t) ≡ ended after
ends_at t after k n = ap ended (sym (n.tail ∙ ap (λ m. drop m t) n.long))

-- the turns of the loop
pub good_more : (t row after rest : List ℕ) (k : ℕ) → Turn t after k → row ≡ take k t → rest ≡ drop 2 after → true ≡ ended after → true ≡ begun row → good rest ≡ good t
good_more t row after rest k n f r ends ok =
    let q = run_row t (ends_at t after k n ∙ sym ends) in
    let e : k ≡ crlf t = n.long ∙ sym q.0 in
    let x : row ≡ take (crlf t) t = f ∙ ap (λ m. take m t) e in
    let y : after ≡ drop (crlf t) t = n.tail ∙ ap (λ m. drop m t) e in
    let all : every (belongs Permitted) (take (crlf t) t) ≡ true = ap (λ m. every (belongs Permitted) (take m t)) q.0 ∙ q.1 in
    let whole : row_formed (take (crlf t) t) ≡ true = and_from (every (belongs Permitted) (take (crlf t) t)) (begun (take (crlf t) t)) all (ap begun (sym x) ∙ sym ok) in
    let l : 2 ≤ length (drop (crlf t) t) = subst (λ u. 2 ≤ length u) y (two_there after (sym ends)) in
    ap good (r ∙ ap (drop 2) y) ∙ sym (good_on t n.some l whole)

pub good_short : (t after : List ℕ) (k : ℕ) → Turn t after k → false ≡ ended after → good t ≡ false
good_short t after k n missing =
    elim (cases_Bool (good t)) [
      | inr e ↦ e
      | inl g ↦ absurd (true≢false (sym (good_run t n.some g) ∙ ends_at t after k n ∙ sym missing))
    ]

pub good_not : (t row after : List ℕ) (k : ℕ) → Turn t after k → row ≡ take k t → true ≡ ended after → false ≡ begun row → good t ≡ false
good_not t row after k n f ends bad =
    let q = run_row t (ends_at t after k n ∙ sym ends) in
    let x : row ≡ take (crlf t) t = f ∙ ap (λ m. take m t) (n.long ∙ sym q.0) in
    good_bad t n.some (and_right (every (belongs Permitted) (take (crlf t) t)) (begun (take (crlf t) t)) (ap begun (sym x) ∙ sym bad))

opens_on : (b : ℕ) (rs : List (List ℕ)) → opens (on_first b rs) ≡ eqb b 58
opens_on b [] = refl
opens_on b (r ∷ rs) = refl

opens_by : (b c : ℕ) (t : List ℕ) (v : Bool) → is_cr_lf b c ≡ v → opens (cond v ([] ∷ rows_of t) (on_first b (rows_of (c ∷ t)))) ≡ eqb b 58
opens_by b c t true e = let x = eqb-true b 13 (and_parts (eqb b 13) (eqb c 10) e).0 in sym (ap (λ n. eqb n 58) x)
opens_by b c t false e = opens_on b (rows_of (c ∷ t))

pub opens_is : (t : List ℕ) → opens (rows_of t) ≡ eqb (get_or t 0 0) 58
opens_is [] = refl
opens_is (b ∷ []) = refl
opens_is (b ∷ c ∷ t) = opens_by b c t (is_cr_lf b c) refl

pub row_put : (r rest : List ℕ) → every (belongs Permitted) r ≡ true → rows_of ((r ++ 13 ∷ 10 ∷ []) ++ rest) ≡ r ∷ rows_of rest
row_put [] rest h = refl
row_put (b ∷ []) rest h = cond-false (is_cr_lf b 13) _ _ (not_cr b 13 (and_parts (belongs Permitted b) true h).0)
row_put (b ∷ c ∷ r) rest h =
    let p = and_parts (belongs Permitted b) (every (belongs Permitted) (c ∷ r)) h in
    cond-false (is_cr_lf b c) _ _ (not_cr b c p.0) ∙ ap (on_first b) (row_put (c ∷ r) rest p.1)

pub rows_put : (rs : List (List ℕ)) → rows_formed rs ≡ true → rows_of (put rs) ≡ rs
rows_put [] h = refl
rows_put (r ∷ rs) h =
    let p = and_parts (row_formed r) (rows_formed rs) h in
    let q = (and_parts (every (belongs Permitted) r) (begun r) p.0).0 in
    row_put r (put rs) q ∙ ap (λ l. r ∷ l) (rows_put rs p.1)

only_rows : (t : List ℕ) (rs : List (List ℕ)) → IsText t rs → rows_of t ≡ rs
only_rows t rs h = ap rows_of h.0 ∙ rows_put rs h.1

some_rows : (t : List ℕ) → formed t ≡ true → (rs : List (List ℕ)) × IsText t rs
some_rows t h =
    let p = and_parts (good t) (opens (rows_of t)) h in
    let q = and_parts (bytes_eq (put (rows_of t)) t) (rows_formed (rows_of t)) p.0 in
    (rows_of t, (sym ((bytes_eq-Decides (put (rows_of t)) t).0 q.0), q.1, p.1))

is_formed : (t : List ℕ) → (rs : List (List ℕ)) × IsText t rs → formed t ≡ true
is_formed t h =
    let rs = h.0 in
    let e = only_rows t rs h.1 in
    let s : bytes_eq (put (rows_of t)) t ≡ true = (bytes_eq-Decides (put (rows_of t)) t).1 (ap put e ∙ sym h.1.0) in
    and_from _ _ (and_from _ _ s (ap rows_formed e ∙ h.1.1)) (ap opens e ∙ h.1.2)

pub text_law : TextLaw
text_law t = ((some_rows t, is_formed t), only_rows t)
