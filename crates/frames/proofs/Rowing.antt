-- How the first row is cut from bytes, and bytes put together from their rows. Assumes nothing.
use Rattle.std.proofs.Common.{Option, Some, None, Bor, ◌≡◌, ℕ, suc, ◌<◌, ◌≤◌, Bool, true, false, cond, not, ◌&&◌, eqb, List, [], ◌∷◌, ◌++◌, length, get_or, take, drop, sym, refl, ap, ◌∙◌, arith}
use Rattle.std.specs.Option.{option_map}
use Rattle.std.specs.List.{flat_map}
use Rattle.std.proofs.Math.Bool.{and-true}
use Rattle.std.proofs.lemmas.List.{append_assoc}
use Rattle.std.proofs.lemmas.Bool.{cond-false, and_parts, and_from, not-true, not_from_false, and_right}
use Rattle.text.specs.Rows.{is_cr_lf, crlf as place}
use Rattle.frames.specs.Fixed.{crlf, begins, on_first}
use Rattle.frames.specs.Rows.{ended_rows, uncut, all_uncut, AreRows, RowsLaw}
use Rattle.frames.proofs.Begins.{begins_front}

-- both say whether two bytes end a row
ends_row : (b c : ℕ) (t : List ℕ) → begins crlf (b ∷ c ∷ t) ≡ is_cr_lf b c
ends_row b c t = ap (λ v. eqb b 13 && v) (and-true (eqb c 10))

-- the rows by what a test of the first two bytes says
rows_by : (b c : ℕ) (t : List ℕ) → ended_rows (b ∷ c ∷ t) ≡ cond (is_cr_lf b c) ([] ∷ ended_rows t) (on_first b (ended_rows (c ∷ t)))
rows_by b c t = ap (λ v. cond v ([] ∷ ended_rows t) (on_first b (ended_rows (c ∷ t)))) (ends_row b c t)

none_on : (b : ℕ) (c : ℕ) (t : List ℕ) (v : Bool) → (length (c ∷ t) ≤ place (c ∷ t) → ended_rows (c ∷ t) ≡ []) → suc (suc (length t)) ≤ cond v 0 (suc (place (c ∷ t))) → cond v ([] ∷ ended_rows t) (on_first b (ended_rows (c ∷ t))) ≡ []
none_on b c t true ih h = absurd (omega arith)
none_on b c t false ih h = ap (on_first b) (ih (omega arith))

no_row : (t : List ℕ) → length t ≤ place t → ended_rows t ≡ []
no_row [] h = refl
no_row (b ∷ []) h = refl
no_row (b ∷ c ∷ t) h = rows_by b c t ∙ none_on b c t (is_cr_lf b c) (no_row (c ∷ t)) h

-- the first row of n bytes, and the rows of what follows its CrLf
abbrev Cut : List ℕ → ℕ → List (List ℕ)
Cut t n = take n t ∷ ended_rows (drop 2 (drop n t))

some_on : (b : ℕ) (c : ℕ) (t : List ℕ) (v : Bool) → (place (c ∷ t) < length (c ∷ t) → ended_rows (c ∷ t) ≡ Cut (c ∷ t) (place (c ∷ t))) → cond v 0 (suc (place (c ∷ t))) < suc (suc (length t)) → cond v ([] ∷ ended_rows t) (on_first b (ended_rows (c ∷ t))) ≡ Cut (b ∷ c ∷ t) (cond v 0 (suc (place (c ∷ t))))
some_on b c t true ih h = refl
some_on b c t false ih h = ap (on_first b) (ih (omega arith))

some_row : (t : List ℕ) → place t < length t → ended_rows t ≡ Cut t (place t)
some_row [] h = absurd (omega arith)
some_row (b ∷ []) h = absurd (omega arith)
some_row (b ∷ c ∷ t) h = rows_by b c t ∙ some_on b c t (is_cr_lf b c) (some_row (c ∷ t)) h

pub row_none : (t : List ℕ) (n : ℕ) → n ≡ place t → length t ≤ n → ended_rows t ≡ []
row_none t n e h = no_row t (omega arith)

pub row_some : (t row after rest : List ℕ) (n : ℕ) → n ≡ place t → n < length t → row ≡ take n t → after ≡ drop n t → rest ≡ drop 2 after → ended_rows t ≡ row ∷ ended_rows rest
row_some t row after rest n e h f g k =
    let y : rest ≡ drop 2 (drop n t) = k ∙ ap (drop 2) g in
    some_row t (omega arith) ∙ ap (Cut t) (sym e) ∙ (λ i. sym f i ∷ ended_rows (sym y i))

-- one byte on in a row
rows_more : (b : ℕ) (t : List ℕ) → ended_rows (b ∷ t) ≡ cond (begins crlf (b ∷ t)) ([] ∷ ended_rows (drop 1 t)) (on_first b (ended_rows t))
rows_more b [] = sym (cond-false (begins crlf (b ∷ [])) _ [] (and_right (eqb b 13) false refl))
rows_more b (c ∷ t) = refl

uncut_first : (b : ℕ) (t : List ℕ) → uncut (b ∷ t) ≡ true → (begins crlf (b ∷ t) ≡ false) × (uncut t ≡ true)
uncut_first b t h =
    let p = and_parts (not (begins crlf (b ∷ t))) (uncut t) h in
    (not-true (begins crlf (b ∷ t)) p.0, p.1)

uncut_before : (b : ℕ) (r u : List ℕ) → begins crlf (b ∷ r) ≡ false → begins crlf (b ∷ (r ++ crlf) ++ u) ≡ false
uncut_before b [] u h = and_right (eqb b 13) false refl
uncut_before b (c ∷ r) u h = h

row_read : (r rest : List ℕ) → uncut r ≡ true → ended_rows ((r ++ crlf) ++ rest) ≡ r ∷ ended_rows rest
row_read [] rest h = refl
row_read (b ∷ r) rest h =
    let p = uncut_first b r h in
    rows_more b ((r ++ crlf) ++ rest) ∙ cond-false _ _ _ (uncut_before b r rest p.0) ∙ ap (on_first b) (row_read r rest p.1)

last_read : (t : List ℕ) → uncut t ≡ true → ended_rows t ≡ []
last_read [] h = refl
last_read (b ∷ t) h =
    let p = uncut_first b t h in
    rows_more b t ∙ cond-false _ _ _ p.0 ∙ ap (on_first b) (last_read t p.1)

abbrev ended : List ℕ → List ℕ
ended r = r ++ crlf

rows_read : (rs : List (List ℕ)) (last : List ℕ) → all_uncut rs ≡ true → uncut last ≡ true → ended_rows (flat_map ended rs ++ last) ≡ rs
rows_read [] last h k = last_read last k
rows_read (r ∷ rs) last h k =
    let p = and_parts (uncut r) (all_uncut rs) h in
    ap ended_rows (append_assoc (ended r) (flat_map ended rs) last) ∙ row_read r (flat_map ended rs ++ last) p.0 ∙ ap (λ l. r ∷ l) (rows_read rs last p.1 k)

abbrev Rowed : List ℕ → List (List ℕ) → Type 0
Rowed b rs = (last : List ℕ) × AreRows b rs last

uncut_more : (b : ℕ) (t : List ℕ) → begins crlf (b ∷ t) ≡ false → uncut t ≡ true → uncut (b ∷ t) ≡ true
uncut_more b t h k = and_from (not (begins crlf (b ∷ t))) (uncut t) (not_from_false (begins crlf (b ∷ t)) h) k

-- b does not begin a CrLf with what the first row begins with
apart : (b c : ℕ) (t r u : List ℕ) → begins crlf (b ∷ c ∷ t) ≡ false → c ∷ t ≡ ended r ++ u → begins crlf (b ∷ r) ≡ false
apart b c t [] u h e = and_right (eqb b 13) false refl
apart b c t (x ∷ r) u h e = ap (λ l. begins crlf (b ∷ get_or l 0 0 ∷ [])) (sym e) ∙ h

rowed_more : (b c : ℕ) (t : List ℕ) (rs : List (List ℕ)) → begins crlf (b ∷ c ∷ t) ≡ false → Rowed (c ∷ t) rs → Rowed (b ∷ c ∷ t) (on_first b rs)
rowed_more b c t [] h (last, w) =
    let e = w.0 in
    (b ∷ last, (ap (λ l. b ∷ l) e, refl, uncut_more b last (ap (λ l. begins crlf (b ∷ l)) (sym e) ∙ h) w.2))
rowed_more b c t (r ∷ rs) h (last, w) =
    let p = and_parts (uncut r) (all_uncut rs) w.1 in
    let e = w.0 ∙ append_assoc (ended r) (flat_map ended rs) last in
    (last, (ap (λ l. b ∷ l) w.0, and_from (uncut (b ∷ r)) (all_uncut rs) (uncut_more b r (apart b c t r (flat_map ended rs ++ last) h e) p.0) p.1, w.2))

rowed_by : (b c : ℕ) (t : List ℕ) (v : Bool) → begins crlf (b ∷ c ∷ t) ≡ v → Rowed t (ended_rows t) → Rowed (c ∷ t) (ended_rows (c ∷ t)) → Rowed (b ∷ c ∷ t) (cond v ([] ∷ ended_rows t) (on_first b (ended_rows (c ∷ t))))
rowed_by b c t true e (last, w) k = (last, (begins_front crlf (b ∷ c ∷ t) e ∙ ap (λ u. crlf ++ u) w.0, w.1, w.2))
rowed_by b c t false e h k = rowed_more b c t (ended_rows (c ∷ t)) e k

rowed : (b : List ℕ) → Rowed b (ended_rows b)
rowed [] = ([], (refl, refl, refl))
rowed (b ∷ []) = (b ∷ [], (refl, refl, uncut_more b [] (and_right (eqb b 13) false refl) refl))
rowed (b ∷ c ∷ t) = rowed_by b c t (begins crlf (b ∷ c ∷ t)) refl (rowed t) (rowed (c ∷ t))

pub rows_law : RowsLaw
rows_law b = (rowed b, λ rs last h. ap ended_rows h.0 ∙ rows_read rs last h.1 h.2)

-- a row that is found, by the bytes that it borrows
pub seen_row : (r : Option (Bor (List ℕ))) (o : Option (List ℕ)) → option_map (λ row. row.now) r ≡ o → o ≡ elim r [ None ↦ None | Some row ↦ Some row.now ]
seen_row None o e = sym e
seen_row (Some row) o e = sym e
