-- SPDX-License-Identifier: Apache-2.0
-- The formal list of a line, as its tree has it.
use Rattle.std.proofs.Common.{◌≡◌, ◌≤◌, ℕ, Bool, true, List, Option, Some, None, sym, ap, ◌∙◌, arith}
use Rattle.std.proofs.lemmas.Bool.Decides.{nat_tests}
use Rattle.mgrammar.specs.RoutineLine.{RoutineLineTree, BodyTree, routine_line_at, body_at, formals_behind, formals_of, has_formals, label_at}
use Rattle.mgrammar.specs.ReadingWords.{◌>>=◌}

pub kept_formals : (language : ℕ) (cs : List ℕ) (t : RoutineLineTree) → 1 ≤ language → routine_line_at cs ≡ Some t → t.formals ≡ formals_of language cs
unfolding routine_line_at
kept_formals language cs t lists is =
    here (body_at (formals_behind (label_at true cs)).1) is ∙ ap (λ (b : Bool). (formals_behind (label_at b cs)).0) (sym known)
  where
    with_body : BodyTree → RoutineLineTree
    with_body b = record { label = (label_at true cs).0; formals = (formals_behind (label_at true cs)).0; body = b }

    here : (o : Option BodyTree) → (o >>= λ b. Some (with_body b)) ≡ Some t → t.formals ≡ (formals_behind (label_at true cs)).0
    here None e = absurd (cc)
    here (Some b) e = let same : with_body b ≡ t = cc in ap (λ (l : RoutineLineTree). l.formals) (sym same)

    known : has_formals language ≡ true
    known = grind (arith, nat_tests)
