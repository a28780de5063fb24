-- SPDX-License-Identifier: Apache-2.0
-- What is asked of globals on examples, as proved equations.
use Rattle.mspec.proofs.SpecWords.{◌≡◌, List, [], ◌∷◌, map, ap, codes, filter, T, from_sorted, is_sorted, entries-from_sorted, Text, Node, significant_digits}
use Rattle.mspec.proofs.SpecWords.{node_cmp, is_beside, is_line_of, routines_of, lines_of, ◌&&◌}
use Rattle.mspec.proofs.ComputedNumbers.{computes}

abbrev Rows : Type 0
Rows = List (Node × Text)

abbrev at : Text → List Text → Node
at name xs = record { account = codes "A"; name = name; subscripts = xs }

abbrev routine_row : List Text → Text → Node × Text
routine_row xs x = (at (codes "ROUTINE") xs, x)

-- the lines of T, among nodes of it that are none: no number, another number of subscripts, another routine
abbrev routine_rows : Rows
routine_rows =
    routine_row (codes "S" ∷ codes "1" ∷ []) (codes " W 6") ∷
    routine_row (codes "T" ∷ []) (codes " W 7") ∷
    routine_row (codes "T" ∷ codes "-1" ∷ []) (codes " W 0") ∷
    routine_row (codes "T" ∷ codes "1" ∷ []) (codes " W 1") ∷
    routine_row (codes "T" ∷ codes "1.5" ∷ []) (codes " W 2") ∷
    routine_row (codes "T" ∷ codes "2" ∷ codes "1" ∷ []) (codes " W 9") ∷
    routine_row (codes "T" ∷ codes "01" ∷ []) (codes " W 8") ∷ []

lines_by_rows : (rows : Rows) → T (is_sorted (node_cmp significant_digits) rows) → (account name : Text)
    → lines_of (from_sorted rows) account name ≡ map (λ e. e.1) (filter (λ e. is_beside (routines_of account) e.0 && is_line_of name e.0.subscripts) rows)
lines_by_rows rows sorted account name =
    ap (λ es. map (λ e. e.1) (filter (λ e. is_beside (routines_of account) e.0 && is_line_of name e.0.subscripts) es)) (entries-from_sorted (node_cmp significant_digits) rows sorted)

lines_of_routine : lines_of (from_sorted routine_rows) (codes "A") (codes "T") ≡ codes " W 0" ∷ codes " W 1" ∷ codes " W 2" ∷ []
unfolding computes
lines_of_routine = lines_by_rows routine_rows tt (codes "A") (codes "T")

-- another account's routine of that name is another
of_another : lines_of (from_sorted routine_rows) (codes "B") (codes "T") ≡ []
unfolding computes
of_another = lines_by_rows routine_rows tt (codes "B") (codes "T")
