-- SPDX-License-Identifier: Apache-2.0
-- A text by its tree.
use Rattle.mexec.proofs.ExecWords.{not, DoubtsOver, FailedBy, fault_of, Doubts-same, ◌≡◌, ◌≢◌, ◌≤◌, Option, Some, None, Ok, Err, refl, sym, subst, arith, Act}
use Rattle.mexec.proofs.ExecWords.{LineTree, commands_of, run, run_within, Standing, Here, Ghosts, Code, Zstore, standing_of, Parts, DoesAt, here_of}
use Rattle.mexec.proofs.ExecWords.{completion_of, keeps_itself, Completion}
use Rattle.std.specs.Prelude.{IsTrue}
use Rattle.mmeaning.specs.LineMeaning as meaning
use Rattle.mnodes.specs.Steady.{IsSteady}
use Rattle.mmeaning.specs.Transition.{is_lost}
use Rattle.moperator.specs.declared.code.Code.TheVariants.{Zsyntax}
use Rattle.moperator.specs.declared.code.Code.TheVariants as code
use Rattle.mexec.specs.declared.text.Ended.{Ended}
use Rattle.mexec.specs.declared.text.Ended.TheVariants.{Done, Fault}
use Rattle.mexec.specs.Runs.{RunsText, EndsBy, ended_by, is_kept_by}

-- a line that fails with a code
fails_by : (b : Standing) (steady : Type 0) (p : Act meaning.Completion) (h : Here) (c : Code) (h' : Here) → FailedBy b steady p h (fault_of c) h'
    → EndsBy b steady p h (ended_by c) h'
fails_by b steady p h code.Halting h' d = d
fails_by b steady p h c h' d = (refl, d)

-- memory and the store sufficed for it if they did
kept_is : (c : Code) → is_kept_by (ended_by c) ≡ not (is_lost (fault_of c))
kept_is code.Halting = refl
kept_is c = refl

module _ {S : Type 0} {g : Ghosts S} where
  pub refused : (o : Option LineTree) (parts : Parts S) → o ≡ None → RunsText g o parts (Fault Zsyntax) parts
  refused o parts e =
      subst (λ o. RunsText g o parts (Fault Zsyntax) parts) (sym e) (record { at = λ sure. (refl, refl); doubt = Doubts-same _; keeps = keeps_itself parts })

  pub done : (o : Option LineTree) (l : LineTree) (old new : Parts S) (s : Completion) → o ≡ Some l
      → DoesAt g (λ a n. run_within a n (commands_of l)) completion_of old (Ok s) new → RunsText g o old Done new
  done o l old new s some d = subst (λ o. RunsText g o old Done new) (sym some) (record {
    doubt = d.doubt;
    at = λ sure. let did = d.at sure in (completion_of s, did.at old.eval.steps (omega arith));
    keeps = d.keeps;
  })

  pub failed : (o : Option LineTree) (l : LineTree) (old new : Parts S) (c : Code) → o ≡ Some l
      → DoesAt g (λ a n. run_within a n (commands_of l)) completion_of old (Err c) new → RunsText g o old (ended_by c) new
  failed o l old new c some d = subst (λ o. RunsText g o old (ended_by c) new) (sym some) (record {
    doubt = subst (DoubtsOver g old.eval.store.now new.eval.store.now) (sym (kept_is c)) d.doubt;
    at = λ sure.
        let did = d.at sure in
        fails_by (standing_of old.eval) (IsSteady g new.eval.store.now) (run (standing_of old.eval).account l) (here_of g old) c (here_of g new) (did.at old.eval.steps (omega arith));
    keeps = d.keeps;
  })

  pub never_refused : {o : Option LineTree} {old new : Parts S} {e : Ended} → (g.steady → (s : S) → IsTrue (g.has_room s) → g.doubt s ≡ 0)
      → RunsText g o old e new → g.steady → IsTrue (g.has_room new.eval.store.now) → ◌≢◌ {A = Ended} e (Fault Zstore)
  never_refused {o = o} {old = old} {new = new} told runs steady room is =
      let here = subst (λ e. RunsText g o old e new) is runs in
      let lost = here.at (told steady new.eval.store.now room) in
      lost.1.0 (steady, room)
