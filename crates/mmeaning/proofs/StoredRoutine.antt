-- SPDX-License-Identifier: Apache-2.0
-- A routine from its first line on, as a proved equation: its lines are set, and then it is run.
use Rattle.mmeaning.proofs.MeaningWords.{computed_maps, computed_numbers, computes, canonical_value, no_locals, Session, ◌∙◌, insert, entries, entries-insert}
use Rattle.mmeaning.proofs.MeaningWords.{significant_digits, node_cmp, node_cmp_total, entries_none, Node, home}
use Rattle.mmeaning.proofs.RoutineRuns.{lines_in, computed_levels}
use Rattle.mmeaning.proofs.Running.{◌≡◌, [], ◌∷◌, Some, false, refl, codes, empty, gets, Globals, Text, done, Answered, at_first, at_last, asked, serving_in}
use Rattle.mmeaning.proofs.Running.{computed_operations, runs}

-- where ALICE keeps this line of R
abbrev line_node : Text → Node
line_node place = record { account = codes "ALICE"; name = codes "ROUTINE"; subscripts = codes "R" ∷ place ∷ [] }

-- what is stored after the lines that set it
abbrev one_stored : Globals
one_stored = insert empty (line_node (codes "1")) (codes "T N V S V=2 D U W V Q")

abbrev both_stored : Globals
both_stored = insert one_stored (line_node (codes "2")) (codes "U S V=V+1 Q")

no_entries : entries (empty {X = Text} {R = node_cmp significant_digits}) ≡ []
no_entries = entries_none (node_cmp significant_digits)

one_entries : entries one_stored ≡ (line_node (codes "1"), codes "T N V S V=2 D U W V Q") ∷ []
one_entries = entries-insert (node_cmp_total significant_digits) empty (line_node (codes "1")) (codes "T N V S V=2 D U W V Q") ∙ rw no_entries refl

both_entries : entries both_stored ≡ (line_node (codes "1"), codes "T N V S V=2 D U W V Q") ∷ (line_node (codes "2"), codes "U S V=V+1 Q") ∷ []
unfolding canonical_value computes
both_entries = entries-insert (node_cmp_total significant_digits) one_stored (line_node (codes "2")) (codes "U S V=V+1 Q") ∙ rw one_entries refl

lines_stored : lines_in both_stored (codes "R") ≡ codes "T N V S V=2 D U W V Q" ∷ codes "U S V=V+1 Q" ∷ []
unfolding lines_in canonical_value computes
lines_stored = rw both_entries refl

-- a session in which this node was referred to last
abbrev referred : Node → Session
referred n = record { locals = no_locals; naked = Some n; test = false; cursor = home }

stored_and_run : Answered (codes "S ^ROUTINE(\"R\",1)=\"T N V S V=2 D U W V Q\"" ∷ codes "S ^ROUTINE(\"R\",2)=\"U S V=V+1 Q\"" ∷ codes "S V=9 D T^R W V" ∷ []) (done [] ∷ done [] ∷ done (codes "39") ∷ [])
unfolding runs
stored_and_run =
    at_first (serving_in one_stored (referred (line_node (codes "1")))) _ refl (simp (computed_operations, gets, computed_maps, computed_numbers))
    (at_first (serving_in both_stored (referred (line_node (codes "2")))) _ refl (simp (computed_operations, gets, computed_maps, computed_numbers))
    (at_last _ refl (simp (computed_levels, computed_operations, gets, computed_maps, computed_numbers, asked both_stored (codes "R") (codes "T N V S V=2 D U W V Q" ∷ codes "U S V=V+1 Q" ∷ []) lines_stored))))
