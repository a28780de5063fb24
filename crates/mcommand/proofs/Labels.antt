-- SPDX-License-Identifier: Apache-2.0
-- A line that begins with another character than a label does not have that label.
use Rattle.mcommand.proofs.CommandWords.{◌≡◌, Bool, true, false, [], ◌∷◌, Option, Some, None, ℕ, length, refl, arith, if◌then◌else◌, Text}
use Rattle.std.specs.Prelude.{◌&&◌, nat_le}
use Rattle.std.proofs.lemmas.Bool.Decides.{nat_tests}
use Rattle.mspec.specs.Limits.{max_name_rest}
use Rattle.mspec.specs.Names.{is_name_rest, is_name_start}
use Rattle.mgrammar.specs.RoutineLine.{has_formals, label_of, label_by, label_ends}
unfoldable use Rattle.mgrammar.specs.RoutineLine.{label_at}
use Rattle.mgrammar.specs.ReadingWords.{run_of, after_run}
unfoldable use Rattle.mgrammar.specs.ReadingWords.{name_at}
use Rattle.mmeaning.specs.Levels.{is_label}
use Rattle.mcommand.specs.Targets.{begin_apart}

-- the label is what the line begins with, if anything
label_apart : (label : Text) (c : ℕ) (name rest line : Text) (b : Bool) → begin_apart label (c ∷ line) ≡ true
    → is_label label (if◌then◌else◌ {A = Option Text × Text} b (Some (c ∷ name), rest) (None, c ∷ line)).0 ≡ false
label_apart [] c name rest line b h = absurd (grind arith)
label_apart (x ∷ xs) c name rest line true h = grind (arith, nat_tests, h)
label_apart (x ∷ xs) c name rest line false h = refl

name_apart : (lists : Bool) (label : Text) (c : ℕ) (name rest line : Text) (b : Bool) → begin_apart label (c ∷ line) ≡ true
    → is_label label (label_by lists (c ∷ line) (if b then Some (c ∷ name, rest) else None)).0 ≡ false
name_apart lists label c name rest line true h = label_apart label c name rest line (label_ends lists rest) h
name_apart lists label c name rest line false h = refl

pub other_label : (language : ℕ) (label line : Text) → begin_apart label line ≡ true → is_label label (label_of language line) ≡ false
unfolding label_at name_at
other_label language label [] h = refl
other_label language label (c ∷ cs) h =
    name_apart (has_formals language) label c (run_of is_name_rest cs) (after_run is_name_rest cs) cs (is_name_start c && nat_le (length (run_of is_name_rest cs)) max_name_rest) h
