-- SPDX-License-Identifier: Apache-2.0
-- Argumentless DO and lines with dots on examples, as proved equations.
use Rattle.mmeaning.proofs.MeaningWords.{M9, M13, Zsyntax, Zlevel, Zsteps}
use Rattle.mmeaning.proofs.Running.{[], ◌∷◌, refl, codes, new_session, done, failed, at_first, at_last, asked, serving_in, holding_in, With, WithSteps}
use Rattle.mmeaning.proofs.Running.{Anywhere, WithEach, at_case, no_more, runs, running}

record Blocks : Type 0 where
  -- the block after an argumentless DO has one dot more; a line with more dots is passed over, and $TEST is restored
  block : With (codes "B") (codes "B I 1 F I=1:1:2 D  W $T" ∷ codes " . W I I 0" ∷ codes " . . W 0" ∷ codes " W \"end\"" ∷ []) (codes "D ^B" ∷ []) (done (codes "1121end") ∷ [])
  do_to_dots : WithEach (codes "C") (codes "C W 1" ∷ codes "L . W 2" ∷ []) (
      -- DO with an argument leads to no line with dots
      (codes "D L^C", failed [] Zlevel) ∷
      -- nor does the level of a routine reach one
      (codes "D ^C", done (codes "1")) ∷ [])
  -- an argumentless DO in a text that no line follows
  block_of_nothing : Anywhere (codes "D" ∷ []) (done [] ∷ [])
  -- a line that is passed over costs a step
  passed_over_costs : WithSteps 10 (codes "S") (codes "T D  F %N=1:1" ∷ codes " . . W 9" ∷ codes " Q" ∷ []) (codes "D ^S" ∷ codes "W %N" ∷ []) (failed [] Zsteps ∷ done (codes "4") ∷ [])
  -- and a line that ends the level costs none
  end_costs_nothing : WithSteps 10 (codes "T") (codes "T D  F %N=1:1" ∷ codes " Q" ∷ []) (codes "D ^T" ∷ codes "W %N" ∷ []) (failed [] Zsteps ∷ done (codes "5") ∷ [])
  -- an error in a block leaves $TEST as it stands
  error_in_block : With (codes "T") (codes "T I 1 D  W 2" ∷ codes " . I 0" ∷ codes " . W 1/0" ∷ []) (codes "D T^T" ∷ codes "W $T" ∷ []) (failed [] M9 ∷ done (codes "0") ∷ [])
  block_in_xecute : WithEach (codes "T") (codes "T X \"D  W 1\" Q" ∷ codes " . W 9" ∷ codes "U D  W 2 Q" ∷ codes " . W 3" ∷ []) (
      -- no line follows a text of XECUTE
      (codes "D T^T", done (codes "1")) ∷
      -- but after a GOTO lines follow those of a terminal
      (codes "G U^T", done (codes "32")) ∷
      -- and those of a text
      (codes "X \"G U^T\" W 4", done (codes "324")) ∷ [])
  dots_told : WithEach (codes "T") (codes "T W 1" ∷ codes " .5" ∷ codes "L. W 1" ∷ codes "M ..;x" ∷ []) (
      -- dots come after a space, and a line that is passed over is not read
      (codes "D T^T", failed (codes "1") Zsyntax) ∷
      -- after a label too
      (codes "D L^T", failed [] M13) ∷
      -- a comment may come after them
      (codes "D M^T", failed [] Zlevel) ∷ [])
  goto_in_block : WithEach (codes "T") (codes "T D  W 5 Q" ∷ codes " . W 1 G:'$D(A) V X \"G V\"" ∷ codes " . W 9" ∷ codes "V . W 2" ∷ codes "U W 3 Q" ∷ []) (
      -- GOTO in a block keeps to its dots
      (codes "D T^T", done (codes "125")) ∷
      -- a text of XECUTE has none
      (codes "S A=1 D T^T", failed (codes "1") Zlevel) ∷ [])
  -- so it goes to a line without dots
  xecute_leaves_block : With (codes "T") (codes "T D  W 5 Q" ∷ codes " . W 1 X \"G U\" W 4 Q" ∷ codes " . W 9" ∷ codes "V . W 2" ∷ codes "U W 3 Q" ∷ []) (codes "D T^T" ∷ []) (done (codes "1345") ∷ [])
  -- what NEW hides in a block comes back after it
  new_in_block : With (codes "T") (codes "T S V=1 D  W V Q" ∷ codes " . N V S V=2 W V" ∷ []) (codes "D ^T" ∷ []) (done (codes "21") ∷ [])
  -- QUIT ends a block, and its line goes on
  quit_in_block : With (codes "T") (codes "T D  W 2 Q" ∷ codes " . W 1 Q" ∷ codes " . W 9" ∷ []) (codes "D ^T" ∷ []) (done (codes "12") ∷ [])
  -- a block within a block
  block_in_block : With (codes "T") (codes "T D  W 4 Q" ∷ codes " . W 1 D  W 3" ∷ codes " . . W 2" ∷ codes " W 9" ∷ []) (codes "D ^T" ∷ []) (done (codes "1234") ∷ [])

blocks : Blocks
unfolding runs
blocks = record {
  block = λ g h. at_last _ refl (simp (running, asked g _ _ h));
  do_to_dots = λ g h. at_case _ refl (simp (running, asked g _ _ h)) (at_case _ refl (simp (running, asked g _ _ h)) no_more);
  block_of_nothing = λ g. at_last _ refl (simp running);
  passed_over_costs = λ g h. at_first (holding_in g (codes "%N") (codes "4")) _ refl (simp (running, asked g _ _ h)) (at_last _ refl (simp running));
  end_costs_nothing = λ g h. at_first (holding_in g (codes "%N") (codes "5")) _ refl (simp (running, asked g _ _ h)) (at_last _ refl (simp running));
  error_in_block = λ g h. at_first (serving_in g new_session) _ refl (simp (running, asked g _ _ h)) (at_last _ refl (simp running));
  block_in_xecute = λ g h. at_case _ refl (simp (running, asked g _ _ h)) (at_case _ refl (simp (running, asked g _ _ h)) (at_case _ refl (simp (running, asked g _ _ h)) no_more));
  dots_told = λ g h. at_case _ refl (simp (running, asked g _ _ h)) (at_case _ refl (simp (running, asked g _ _ h)) (at_case _ refl (simp (running, asked g _ _ h)) no_more));
  goto_in_block = λ g h. at_case _ refl (simp (running, asked g _ _ h)) (at_case _ refl (simp (running, asked g _ _ h)) no_more);
  xecute_leaves_block = λ g h. at_last _ refl (simp (running, asked g _ _ h));
  new_in_block = λ g h. at_last _ refl (simp (running, asked g _ _ h));
  quit_in_block = λ g h. at_last _ refl (simp (running, asked g _ _ h));
  block_in_block = λ g h. at_last _ refl (simp (running, asked g _ _ h));
}
