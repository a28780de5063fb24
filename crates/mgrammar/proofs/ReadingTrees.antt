-- SPDX-License-Identifier: Apache-2.0
-- Runs of steps, of arguments, of choices and of actuals, as lists.
use Rattle.mgrammar.proofs.GrammarWords.{◌≡◌, ℕ, suc, ◌<◌, ◌-◌, List, [], ◌∷◌, ◌++◌, length, refl, sym, ap, ◌∙◌, append_assoc, ExprTree, TailTree, TailsTree}
use Rattle.mgrammar.proofs.GrammarWords.{no_tails, tail, tails_of, ExprsTree, no_exprs, exprs, exprs_of, ChoicesTree, no_choices, choice, choices_of}
use Rattle.mgrammar.proofs.GrammarWords.{ActualTree, ActualsTree, no_actuals, actuals, actuals_of, spell_actual, spell_more_actuals, spell_tail, spell_tails}
use Rattle.mgrammar.proofs.GrammarWords.{spell_expr, spell_exprs, spell_more_exprs, spell_choices, spell_more_choices, spell_list, spell_more, exprs_count}
use Rattle.mgrammar.proofs.GrammarWords.{HasChoice, WellExpr, WellTail, WellTails, WellExprs, WellChoices, WellActual, WellMoreActuals, WellAll, WellList}
use Rattle.mgrammar.proofs.ReadingLists.{each}

-- ---- steps

abbrev pub tails_list : TailsTree → List TailTree
tails_list no_tails = []
tails_list (tail s rest) = s ∷ tails_list rest

pub tails_back : (s : TailsTree) → tails_of (tails_list s) ≡ s
tails_back no_tails = refl
tails_back (tail s rest) = ap (λ (x : TailsTree). tail s x) (tails_back rest)

pub spell_tails-each : (xs : List TailTree) → spell_tails (tails_of xs) ≡ each spell_tail xs
spell_tails-each [] = refl
spell_tails-each (x ∷ xs) = ap (λ (y : List ℕ). spell_tail x ++ y) (spell_tails-each xs)

pub tails_well : (d : ℕ) (xs : List TailTree) → WellAll (WellTail d) xs → WellTails d (tails_of xs)
tails_well d [] w = tt
tails_well d (x ∷ xs) w = (w.0, tails_well d xs w.1)

pub list_well : (d : ℕ) (s : TailsTree) → WellTails d s → WellAll (WellTail d) (tails_list s)
list_well d no_tails w = tt
list_well d (tail s rest) w = (w.0, list_well d rest w.1)

-- ---- what stands in brackets

-- an expression in brackets, if this many more brackets may be open
abbrev pub WellInner : ℕ → ExprTree → Type 0
WellInner d e = (0 < d) × WellExpr (d - 1) e

-- ---- arguments

abbrev pub exprs_list : ExprsTree → List ExprTree
exprs_list no_exprs = []
exprs_list (exprs e rest) = e ∷ exprs_list rest

pub exprs_back : (s : ExprsTree) → exprs_of (exprs_list s) ≡ s
exprs_back no_exprs = refl
exprs_back (exprs e rest) = ap (λ (x : ExprsTree). exprs e x) (exprs_back rest)

pub more_exprs-list : (es : List ExprTree) → spell_more_exprs (exprs_of es) ≡ spell_more spell_expr es
more_exprs-list [] = refl
more_exprs-list (e ∷ es) = ap (λ (y : List ℕ). 44 ∷ (spell_expr e ++ y)) (more_exprs-list es)

pub spell_exprs-list : (es : List ExprTree) → spell_exprs (exprs_of es) ≡ spell_list spell_expr es
spell_exprs-list [] = refl
spell_exprs-list (e ∷ es) = ap (λ (y : List ℕ). spell_expr e ++ y) (more_exprs-list es)

pub count-length : (es : List ExprTree) → exprs_count (exprs_of es) ≡ length es
count-length [] = refl
count-length (e ∷ es) = ap suc (count-length es)

pub exprs_well : (d : ℕ) (es : List ExprTree) → WellAll (WellInner d) es → WellExprs (d - 1) (exprs_of es)
exprs_well d [] w = tt
exprs_well d (e ∷ es) w = (w.0.1, exprs_well d es w.1)

pub exprs_inner : (d : ℕ) (s : ExprsTree) → 0 < d → WellExprs (d - 1) s → WellAll (WellInner d) (exprs_list s)
exprs_inner d no_exprs lt w = tt
exprs_inner d (exprs e rest) lt w = ((lt, w.0), exprs_inner d rest lt w.1)

-- ---- choices

abbrev pub spell_choice : ExprTree × ExprTree → List ℕ
spell_choice c = spell_expr c.0 ++ 58 ∷ spell_expr c.1

abbrev pub WellChoice : ℕ → ExprTree × ExprTree → Type 0
WellChoice d c = WellInner d c.0 × WellInner d c.1

abbrev pub choices_list : ChoicesTree → List (ExprTree × ExprTree)
choices_list no_choices = []
choices_list (choice c v rest) = (c, v) ∷ choices_list rest

pub choices_back : (s : ChoicesTree) → choices_of (choices_list s) ≡ s
choices_back no_choices = refl
choices_back (choice c v rest) = ap (λ (x : ChoicesTree). choice c v x) (choices_back rest)

-- a choice, and the text of those after it
choice-more : (c v rest more : List ℕ) → rest ≡ more → c ++ 58 ∷ (v ++ rest) ≡ (c ++ 58 ∷ v) ++ more
choice-more c v rest more e = ap (λ (y : List ℕ). c ++ 58 ∷ (v ++ y)) e ∙ sym (append_assoc c (58 ∷ v) more)

more_choices-list : (cs : List (ExprTree × ExprTree)) → spell_more_choices (choices_of cs) ≡ spell_more spell_choice cs
more_choices-list [] = refl
more_choices-list (c ∷ cs) =
    ap (λ (y : List ℕ). 44 ∷ y) (choice-more (spell_expr c.0) (spell_expr c.1) (spell_more_choices (choices_of cs)) (spell_more spell_choice cs) (more_choices-list cs))

pub spell_choices-list : (cs : List (ExprTree × ExprTree)) → spell_choices (choices_of cs) ≡ spell_list spell_choice cs
spell_choices-list [] = refl
spell_choices-list (c ∷ cs) = choice-more (spell_expr c.0) (spell_expr c.1) (spell_more_choices (choices_of cs)) (spell_more spell_choice cs) (more_choices-list cs)

choices_all : (d : ℕ) (cs : List (ExprTree × ExprTree)) → WellAll (WellChoice d) cs → WellChoices (d - 1) (choices_of cs)
choices_all d [] w = tt
choices_all d (c ∷ cs) w = (w.0.0.1, w.0.1.1, choices_all d cs w.1)

-- choices that were read in brackets
pub choices_well : (d : ℕ) (cs : List (ExprTree × ExprTree)) → WellList (WellChoice d) cs → (0 < d) × HasChoice (choices_of cs) × WellChoices (d - 1) (choices_of cs)
choices_well d [] w = absurd w
choices_well d (c ∷ cs) w = (w.0.0.0, tt, choices_all d (c ∷ cs) w)

choices_each : (d : ℕ) (s : ChoicesTree) → 0 < d → WellChoices (d - 1) s → WellAll (WellChoice d) (choices_list s)
choices_each d no_choices lt w = tt
choices_each d (choice c v rest) lt w = (((lt, w.0), (lt, w.1)), choices_each d rest lt w.2)

pub choices_inner : (d : ℕ) (s : ChoicesTree) → 0 < d → HasChoice s → WellChoices (d - 1) s → WellList (WellChoice d) (choices_list s)
choices_inner d no_choices lt h w = absurd h
choices_inner d (choice c v rest) lt h w = choices_each d (choice c v rest) lt w

-- ---- actuals

-- an actual in brackets, if this many more brackets may be open
abbrev pub WellHanded : ℕ → ActualTree → Type 0
WellHanded d a = (0 < d) × WellActual (d - 1) a

abbrev pub actuals_list : ActualsTree → List ActualTree
actuals_list no_actuals = []
actuals_list (actuals a rest) = a ∷ actuals_list rest

pub actuals_back : (s : ActualsTree) → actuals_of (actuals_list s) ≡ s
actuals_back no_actuals = refl
actuals_back (actuals a rest) = ap (λ (x : ActualsTree). actuals a x) (actuals_back rest)

pub more_actuals-list : (xs : List ActualTree) → spell_more_actuals (actuals_of xs) ≡ spell_more spell_actual xs
more_actuals-list [] = refl
more_actuals-list (a ∷ xs) = ap (λ (y : List ℕ). 44 ∷ (spell_actual a ++ y)) (more_actuals-list xs)

pub actuals_well : (d : ℕ) (xs : List ActualTree) → WellAll (WellHanded d) xs → WellMoreActuals (d - 1) (actuals_of xs)
actuals_well d [] w = tt
actuals_well d (a ∷ xs) w = (w.0.1, actuals_well d xs w.1)

pub actuals_inner : (d : ℕ) (s : ActualsTree) → 0 < d → WellMoreActuals (d - 1) s → WellAll (WellHanded d) (actuals_list s)
actuals_inner d no_actuals lt w = tt
actuals_inner d (actuals a rest) lt w = ((lt, w.0), actuals_inner d rest lt w.1)
