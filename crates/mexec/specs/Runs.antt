-- SPDX-License-Identifier: Apache-2.0
-- What a call that carries out a text says of the text's meaning.
use Rattle.std.specs.Prelude.{◌≡◌, Option, Bool, true, false, not}
use Rattle.mspec.specs.Code.{Fault, Own, Lost, Halting, is_halting}
use Rattle.mspec.specs.Act.{Act}
use Rattle.mgrammar.specs.Grammar.{LineTree}
use Rattle.mmeaning.specs.LineMeaning.{Completion}
use Rattle.mmeaning.specs.Transition.{Ending, is_lost, Finished, Halted, Faulted, text_run}
use Rattle.mmeaning.specs.Calls.{Standing, Here, Gave, FailedBy}
use Rattle.mnodes.specs.Over.{DoubtsOver}
use Rattle.mnodes.specs.Steady.{IsSteady}
use Rattle.mnodes.specs.declared.store.NodeStore.{Ghosts}
use Rattle.moperator.specs.Codes.{fault_of}
use Rattle.moperator.specs.declared.code.Code.{Code}
use Rattle.moperator.specs.declared.code.Code.TheVariants as code
use Rattle.meval.specs.Evaluates.{standing_of}
use Rattle.mcommand.specs.declared.parts.Parts.{Parts}
use Rattle.mcommand.specs.Does.{KeepsLoans, here_of}
use Rattle.mexec.specs.declared.text.Ended.{Ended}
use Rattle.mexec.specs.declared.text.Ended.TheVariants as ended

abbrev pub ending_of : Ended → Ending
ending_of ended.Done = Finished
ending_of ended.Halt = Halted
ending_of (ended.Fault c) = Faulted (fault_of c)

-- how a line that fails with a code ends: HALT is one that no reply shows
abbrev pub ended_by : Code → Ended
ended_by code.Halting = ended.Halt
ended_by c = ended.Fault c

-- memory and the store sufficed
abbrev pub is_kept_by : Ended → Bool
is_kept_by (ended.Fault c) = not (is_lost (fault_of c))
is_kept_by _ = true

-- whether a fault is the code of HALT
abbrev pub is_halt : Fault → Bool
is_halt (Own c) = is_halting c
is_halt (Lost loss) = false

-- it gave some completion; it failed with the code of HALT; or it failed otherwise
abbrev pub EndsBy : Standing → (steady : Type 0) → Act Completion → Here → Ended → Here → Type 0
EndsBy b steady p h ended.Done h' = (s : Completion) × Gave b p h s h'
EndsBy b steady p h ended.Halt h' = FailedBy b steady p h (Own Halting) h'
EndsBy b steady p h (ended.Fault c) h' = (is_halt (fault_of c) ≡ false) × FailedBy b steady p h (fault_of c) h'

-- the text with this tree is carried out: the call ends as it does
pub record RunsText {S : Type 0} (g : Ghosts S) (tree : Option LineTree) (old : Parts S) (ended : Ended) (new : Parts S) : Type 0 where
  pub at : g.doubt new.eval.store.now ≡ 0 → EndsBy (standing_of old.eval) (IsSteady g new.eval.store.now) (text_run (standing_of old.eval).account tree) (here_of g old) ended (here_of g new)
  pub doubt : DoubtsOver g old.eval.store.now new.eval.store.now (is_kept_by ended)
  pub keeps : KeepsLoans old new
