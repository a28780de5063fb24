-- SPDX-License-Identifier: Apache-2.0
-- Argument indirection of DO and GOTO on examples, as proved equations.
use Rattle.mmeaning.proofs.MeaningWords.{rules, at_label_in, own_routine, do_argument, goto_argument, do_one, no_actuals, go_to, args_in, reads_in}
use Rattle.mmeaning.proofs.Running.{◌≡◌, List, [], ◌∷◌, Some, None, refl, codes, Text, done, at_last, asked, With, runs, running}

-- ---- what is read of the texts

record TextsRead : Type 0 where
  entries_t_u : args_in do_argument 0 (codes "T^T,U^T") ≡ Some (do_one (at_label_in (codes "T") (own_routine (codes "T"))) no_actuals None ∷ do_one (at_label_in (codes "U") (own_routine (codes "T"))) no_actuals None ∷ [])
  entry_t : args_in do_argument 0 (codes "T^T") ≡ Some (do_one (at_label_in (codes "T") (own_routine (codes "T"))) no_actuals None ∷ [])
  leap_u : args_in goto_argument 0 (codes "U^T") ≡ Some (go_to (at_label_in (codes "U") (own_routine (codes "T"))) None ∷ [])

texts_read : TextsRead
unfolding reads_in
texts_read = search rules

-- ---- lines

abbrev two_lines : List Text
two_lines = codes "T W 1 Q" ∷ codes "U W 2 Q" ∷ []

record Given : Type 0 where
  -- each entry that the text gives is done
  given_entries : With (codes "T") two_lines (codes "D @\"T^T,U^T\" W 3" ∷ []) (done (codes "123") ∷ [])
  -- GOTO leads on in the level that the indirection is in
  given_leap : With (codes "T") two_lines (codes "G @\"U^T\" W 3" ∷ []) (done (codes "2") ∷ [])

given : Given
unfolding runs
given = record {
  given_entries = λ g h. at_last _ refl (simp (running, asked g _ _ h));
  given_leap = λ g h. at_last _ refl (simp (running, asked g _ _ h));
}
