-- SPDX-License-Identifier: Apache-2.0
-- What is read of a number is spelled so, and what is spelled so is read.
use Rattle.mgrammar.proofs.GrammarWords.{◌≡◌, ◌≢◌, ℕ, Bool, true, false, cond, eqb, List, [], ◌∷◌, ◌++◌, All, Option, Some, None, refl, sym, ap, subst, ◌∙◌}
use Rattle.mgrammar.proofs.GrammarWords.{append_assoc, arith, ◌||◌, eqb-true, nat_tests, is_digit, ExponentSign, Unsigned, Plus, Minus, Exponent, Literal}
use Rattle.mgrammar.proofs.GrammarWords.{spell_sign, spell_fraction, spell_exponent, spell_literal, IsDigits, IsFraction, IsExponent, IsMantissa, IsLiteral}
use Rattle.mgrammar.proofs.GrammarWords.{AllAre, SpellsNumber, run_of, after_run, is_plus_or_minus, one_sign, after_sign, point_by, point_at, exponent_by}
use Rattle.mgrammar.proofs.GrammarWords.{exponent_at, number_by, number_at, is_digit_or_point}
use Rattle.std.proofs.lemmas.List.Elements.{All-from_recursion, All-head, All-tail}
use Rattle.mgrammar.proofs.ReadingBasics.{Takes, Again, Stops, Stops-weaker, Begins, some_is, run_parts, run_again}

-- ---- digits

digits_are : (ds : List ℕ) → All (λ c. is_digit c ≡ true) ds → AllAre is_digit ds
digits_are [] all = tt
digits_are (d ∷ ds) all = (All-head (λ c. is_digit c ≡ true) d ds all, digits_are ds (All-tail (λ c. is_digit c ≡ true) d ds all))

are_digits : (ds : List ℕ) → AllAre is_digit ds → All (λ c. is_digit c ≡ true) ds
are_digits ds all = All-from_recursion (λ c. is_digit c ≡ true) ds all

some_digits : (d : ℕ) (ds : List ℕ) → AllAre is_digit (d ∷ ds) → IsDigits (d ∷ ds)
some_digits d ds all = record { some = λ e. cc; each = are_digits (d ∷ ds) all }

-- ---- what is read is spelled so

-- a text that was read of cs, and what follows it; P says what it spells
abbrev Part : {A : Type 0} → (Option A → List ℕ) → (Option A → Type 0) → List ℕ → List ℕ × List ℕ → Type 0
Part {A} spell P cs x = (o : Option A) × (x.0 ≡ spell o) × P o × (cs ≡ x.0 ++ x.1)

point_parts_by : (ds cs : List ℕ) → AllAre is_digit ds → cs ≡ ds ++ after_run is_digit cs → Part spell_fraction IsFraction (46 ∷ cs) (point_by ds cs)
point_parts_by [] cs all e = (None, refl, tt, refl)
point_parts_by (d ∷ ds) cs all e = (Some (d ∷ ds), refl, some_digits d ds all, ap (λ (x : List ℕ). 46 ∷ x) e)

-- a part after a mark, where the first character's test gives b
marked : {A : Type 0} (spell : Option A → List ℕ) (P : Option A → Type 0) (mark c : ℕ) (cs : List ℕ) (y : List ℕ × List ℕ) (b : Bool) → eqb c mark ≡ b
    → Part spell P (mark ∷ cs) y → Part spell P (c ∷ cs) ([], c ∷ cs) → Part spell P (c ∷ cs) (cond b y ([], c ∷ cs))
marked spell P mark c cs y true h p none = let at : c ≡ mark = eqb-true _ _ h in rw at p
marked spell P mark c cs y false h p none = none

point_parts : (cs : List ℕ) → Part spell_fraction IsFraction cs (point_at cs)
unfolding point_at
point_parts [] = (None, refl, tt, refl)
point_parts (c ∷ cs) =
    let r = run_parts is_digit cs in
    marked spell_fraction IsFraction 46 c cs (point_by (run_of is_digit cs) cs) (eqb c 46) refl (point_parts_by (run_of is_digit cs) cs r.1 r.0) (None, refl, tt, refl)

-- a sign or none, as a part of an exponent
abbrev SignIs : List ℕ → Type 0
SignIs cs = (s : ExponentSign) × (one_sign cs ≡ spell_sign s) × (cs ≡ spell_sign s ++ after_sign cs)

is_sign_test : (c : ℕ) → is_plus_or_minus c ≡ true → eqb c 43 ≡ false → eqb c 45 ≡ true
is_sign_test c h k = grind (arith, nat_tests)

sign_test : (c : ℕ) (cs : List ℕ) (b p : Bool) → is_plus_or_minus c ≡ b → eqb c 43 ≡ p
    → (s : ExponentSign) × (cond b (c ∷ []) [] ≡ spell_sign s) × (c ∷ cs ≡ spell_sign s ++ cond b cs (c ∷ cs))
sign_test c cs false p h k = (Unsigned, refl, refl)
sign_test c cs true true h k = let at : c ≡ 43 = eqb-true _ _ k in (Plus, rw at refl, rw at refl)
sign_test c cs true false h k = let at : c ≡ 45 = eqb-true _ _ (is_sign_test c h k) in (Minus, rw at refl, rw at refl)

sign_parts : (cs : List ℕ) → SignIs cs
sign_parts [] = (Unsigned, refl, refl)
sign_parts (c ∷ cs) = sign_test c cs (is_plus_or_minus c) (eqb c 43) refl refl

exponent_text : (cs one s ds after rest : List ℕ) → cs ≡ s ++ after → one ≡ s → after ≡ ds ++ rest → 69 ∷ cs ≡ (69 ∷ (one ++ ds)) ++ rest
exponent_text cs one s ds after rest p q r = rw (p, q, r) (ap (λ (x : List ℕ). 69 ∷ x) (sym (append_assoc s ds rest)))

exponent_parts_by : (ds cs : List ℕ) → AllAre is_digit ds → after_sign cs ≡ ds ++ after_run is_digit (after_sign cs) → SignIs cs → Part spell_exponent IsExponent (69 ∷ cs) (exponent_by ds cs)
exponent_parts_by [] cs all e s = (None, refl, tt, refl)
exponent_parts_by (d ∷ ds) cs all e s = (
  Some (record { sign = s.0; digits = d ∷ ds }),
  ap (λ (x : List ℕ). 69 ∷ (x ++ d ∷ ds)) s.1,
  some_digits d ds all,
  exponent_text cs (one_sign cs) (spell_sign s.0) (d ∷ ds) (after_sign cs) (after_run is_digit (after_sign cs)) s.2 s.1 e,
)

exponent_parts : (cs : List ℕ) → Part spell_exponent IsExponent cs (exponent_at cs)
unfolding exponent_at
exponent_parts [] = (None, refl, tt, refl)
exponent_parts (c ∷ cs) =
    let r = run_parts is_digit (after_sign cs) in
    marked spell_exponent IsExponent 69 c cs (exponent_by (run_of is_digit (after_sign cs)) cs) (eqb c 69) refl
    (exponent_parts_by (run_of is_digit (after_sign cs)) cs r.1 r.0 (sign_parts cs)) (None, refl, tt, refl)

-- digits, and a fraction or none, are a mantissa if there is a digit
is_mantissa : (ds : List ℕ) (o : Option (List ℕ)) → AllAre is_digit ds → IsFraction o → ds ++ spell_fraction o ≢ [] → IsMantissa ds o
is_mantissa [] None all f some = absurd (some refl)
is_mantissa (d ∷ ds) None all f some = some_digits d ds all
is_mantissa ds (Some digits) all f some = (are_digits ds all, f)

three_parts : (cs a r b t c rest : List ℕ) → cs ≡ a ++ r → r ≡ b ++ t → t ≡ c ++ rest → cs ≡ ((a ++ b) ++ c) ++ rest
three_parts cs a r b t c rest p q s = rw (p, q, s) (simp append_assoc)

-- a mantissa that has a digit, and an exponent or none
number_takes_by : (m cs : List ℕ) (x : List ℕ × List ℕ) → number_by m cs ≡ Some x → (m ≢ []) × ((m ++ (exponent_at cs).0, (exponent_at cs).1) ≡ x)
number_takes_by [] cs x e = absurd cc
number_takes_by (d ∷ ds) cs x e = (λ z. cc, some_is _ x e)

pub number_takes : Takes (λ ds. ds) SpellsNumber number_at
unfolding number_at
number_takes cs x e =
    let ds = run_of is_digit cs in
    let f = point_at (after_run is_digit cs) in
    let t = exponent_at f.1 in
    let b = number_takes_by (ds ++ f.0) f.1 x e in
    let r = run_parts is_digit cs in
    let point = point_parts (after_run is_digit cs) in
    let exponent = exponent_parts f.1 in
    let some : ds ++ spell_fraction point.0 ≢ [] = subst (λ (y : List ℕ). ds ++ y ≢ []) point.1 b.0 in
    let l : Literal = record { whole = ds; fraction = point.0; exponent = exponent.0 } in
    let is : IsLiteral l = record { mantissa = is_mantissa ds point.0 r.1 point.2 some; exponent = exponent.2 } in
    let same : spell_literal l ≡ (ds ++ f.0) ++ t.0 = rw (point.1, exponent.1, append_assoc) refl in
    let parts : cs ≡ ((ds ++ f.0) ++ t.0) ++ t.1 = three_parts cs ds (after_run is_digit cs) f.0 f.1 t.0 t.1 r.0 point.3 exponent.3 in
    subst (λ (y : List ℕ × List ℕ). (cs ≡ y.0 ++ y.1) × SpellsNumber y.0) b.1 (parts, (l, is, same))

-- ---- what is spelled so is read

-- a character that would go on with a number
abbrev pub goes_on_number : ℕ → Bool
goes_on_number c = is_digit c || eqb c 46 || eqb c 69

not_number : (c : ℕ) → goes_on_number c ≡ false → (is_digit c ≡ false) × (eqb c 46 ≡ false) × (eqb c 69 ≡ false)
not_number c h = (grind (arith, nat_tests), grind (arith, nat_tests), grind (arith, nat_tests))

no_point : (rest : List ℕ) → Stops (λ c. eqb c 46) rest → point_at rest ≡ ([], rest)
unfolding point_at
no_point [] s = refl
no_point (c ∷ rest) s = rw s refl

point_again : (o : Option (List ℕ)) (rest : List ℕ) → IsFraction o → Stops (λ c. eqb c 46) rest → Stops is_digit rest → point_at (spell_fraction o ++ rest) ≡ (spell_fraction o, rest)
unfolding point_at
point_again None rest is s k = no_point rest s
point_again (Some []) rest is s k = absurd (is.some refl)
point_again (Some (d ∷ ds)) rest is s k =
    let r = run_again is_digit (d ∷ ds) rest (digits_are (d ∷ ds) is.each) k in
    rw (r.0, r.1) refl

no_exponent : (rest : List ℕ) → Stops (λ c. eqb c 69) rest → exponent_at rest ≡ ([], rest)
unfolding exponent_at
no_exponent [] s = refl
no_exponent (c ∷ rest) s = rw s refl

digit_no_sign : (c : ℕ) → is_digit c ≡ true → is_plus_or_minus c ≡ false
digit_no_sign c h = grind (arith, nat_tests)

sign_again : (s : ExponentSign) (d : ℕ) (cs : List ℕ) → is_digit d ≡ true → (one_sign (spell_sign s ++ d ∷ cs) ≡ spell_sign s) × (after_sign (spell_sign s ++ d ∷ cs) ≡ d ∷ cs)
sign_again Unsigned d cs h = let k = digit_no_sign d h in (rw k refl, rw k refl)
sign_again Plus d cs h = (refl, refl)
sign_again Minus d cs h = (refl, refl)

exponent_cells : (cs s : List ℕ) (d : ℕ) (ds rest : List ℕ) → one_sign cs ≡ s → run_of is_digit (after_sign cs) ≡ d ∷ ds → after_run is_digit (after_sign cs) ≡ rest
    → exponent_at (69 ∷ cs) ≡ (69 ∷ (s ++ d ∷ ds), rest)
unfolding exponent_at
exponent_cells cs s d ds rest p q r = rw (q, r, p) refl

exponent_some : (s : ExponentSign) (d : ℕ) (ds rest : List ℕ) → AllAre is_digit (d ∷ ds) → Stops is_digit rest
    → exponent_at (69 ∷ (spell_sign s ++ d ∷ (ds ++ rest))) ≡ (69 ∷ (spell_sign s ++ d ∷ ds), rest)
exponent_some s d ds rest all k =
    let r = run_again is_digit (d ∷ ds) rest all k in
    let one = sign_again s d (ds ++ rest) all.0 in
    exponent_cells (spell_sign s ++ d ∷ (ds ++ rest)) (spell_sign s) d ds rest one.0 (ap (run_of is_digit) one.1 ∙ r.0) (ap (after_run is_digit) one.1 ∙ r.1)

exponent_again : (o : Option Exponent) (rest : List ℕ) → IsExponent o → Stops goes_on_number rest → exponent_at (spell_exponent o ++ rest) ≡ (spell_exponent o, rest)
exponent_again None rest is s = no_exponent rest (Stops-weaker goes_on_number (λ c. eqb c 69) rest (λ c h. (not_number c h).2) s)
exponent_again (Some e) rest is s = exponent_digits e.sign e.digits rest is.some (digits_are e.digits is.each) (Stops-weaker goes_on_number is_digit rest (λ c h. (not_number c h).0) s)
  where
    exponent_digits : (s : ExponentSign) (ds rest : List ℕ) → ds ≢ [] → AllAre is_digit ds → Stops is_digit rest → exponent_at (69 ∷ (spell_sign s ++ ds) ++ rest) ≡ (69 ∷ (spell_sign s ++ ds), rest)
    exponent_digits s [] rest some all k = absurd (some refl)
    exponent_digits s (d ∷ ds) rest some all k = ap (λ (y : List ℕ). exponent_at (69 ∷ y)) (append_assoc (spell_sign s) (d ∷ ds) rest) ∙ exponent_some s d ds rest all k

-- an exponent, or what follows it, is no digit and no point
exponent_stops : (o : Option Exponent) (rest : List ℕ) → Stops goes_on_number rest → Stops (λ c. eqb c 46) (spell_exponent o ++ rest) × Stops is_digit (spell_exponent o ++ rest)
exponent_stops None rest s = (Stops-weaker goes_on_number (λ c. eqb c 46) rest (λ c h. (not_number c h).1) s, Stops-weaker goes_on_number is_digit rest (λ c h. (not_number c h).0) s)
exponent_stops (Some e) rest s = (refl, refl)

point_stops : (o : Option (List ℕ)) (rest : List ℕ) → Stops is_digit rest → Stops is_digit (spell_fraction o ++ rest)
point_stops None rest s = s
point_stops (Some ds) rest s = refl

mantissa_parts : (ds : List ℕ) (o : Option (List ℕ)) → IsMantissa ds o → AllAre is_digit ds × IsFraction o × (ds ++ spell_fraction o ≢ [])
mantissa_parts [] None m = absurd (m.some refl)
mantissa_parts (d ∷ ds) None m = (digits_are (d ∷ ds) m.each, tt, λ z. cc)
mantissa_parts [] (Some digits) m = (tt, m.1, λ z. cc)
mantissa_parts (d ∷ ds) (Some digits) m = (digits_are (d ∷ ds) m.0, m.1, λ z. cc)

number_some : (m cs : List ℕ) → m ≢ [] → number_by m cs ≡ Some (m ++ (exponent_at cs).0, (exponent_at cs).1)
number_some [] cs some = absurd (some refl)
number_some (d ∷ ds) cs some = refl

literal_again : (l : Literal) (rest : List ℕ) → IsLiteral l → Stops goes_on_number rest → number_at (spell_literal l ++ rest) ≡ Some (spell_literal l, rest)
unfolding number_at
literal_again l rest is s =
    let m = mantissa_parts l.whole l.fraction is.mantissa in
    let k = exponent_stops l.exponent rest s in
    let tail : List ℕ = spell_fraction l.fraction ++ (spell_exponent l.exponent ++ rest) in
    let r = run_again is_digit l.whole tail m.0 (point_stops l.fraction (spell_exponent l.exponent ++ rest) k.1) in
    let f = point_again l.fraction (spell_exponent l.exponent ++ rest) m.1 k.0 k.1 in
    let e = exponent_again l.exponent rest is.exponent s in
    let parts : spell_literal l ++ rest ≡ l.whole ++ tail = simp append_assoc in
    let some = number_some (l.whole ++ spell_fraction l.fraction) (spell_exponent l.exponent ++ rest) m.2 in
    ap number_at parts ∙ rw (r.0, r.1, f, some, e) (ap (λ (y : List ℕ). Some (y, rest)) (append_assoc l.whole (spell_fraction l.fraction) (spell_exponent l.exponent)))

pub number_again : Again (λ ds. ds) SpellsNumber (Stops goes_on_number) number_at
number_again t rest is s = subst (λ (y : List ℕ). number_at (y ++ rest) ≡ Some (y, rest)) is.2 (literal_again is.0 rest is.1 s)

pub digit_first : (c : ℕ) → is_digit c ≡ true → is_digit_or_point c ≡ true
digit_first c h = grind (arith, nat_tests)

literal_begins : (ds : List ℕ) (o : Option (List ℕ)) (rest : List ℕ) → IsMantissa ds o → Begins is_digit_or_point (ds ++ (spell_fraction o ++ rest))
literal_begins [] None rest m = absurd (m.some refl)
literal_begins (d ∷ ds) None rest m = digit_first d (digits_are (d ∷ ds) m.each).0
literal_begins [] (Some digits) rest m = refl
literal_begins (d ∷ ds) (Some digits) rest m = digit_first d (digits_are (d ∷ ds) m.0).0

pub number_begins : (t : List ℕ) → SpellsNumber t → Begins is_digit_or_point t
number_begins t is = subst (Begins is_digit_or_point) is.2 (literal_begins is.0.whole is.0.fraction (spell_exponent is.0.exponent) is.1.mantissa)
