-- SPDX-License-Identifier: Apache-2.0
-- An argument with a call has a program, if each call in it stands where steps are.
use Rattle.mmeaning.proofs.MeaningWords.{◌≡◌, Bool, true, false, List, Some, None, refl, sym, assign, formats, coded}
use Rattle.mmeaning.proofs.MeaningWords.{shown, kill_one, new_one, tested, loop, do_one, go_to, executed, locked, indirect_args}
use Rattle.mgrammar.specs.Grammar.{kill_others, new_others, hang_for, returned, merge_one}
use Rattle.mmeaning.specs.Programs.{Op, Ending, Program, program_if}
use Rattle.mmeaning.specs.ProgramLaws.{ProgramsAreThere}

-- what one has and another has not
clash : {A : Type 0} → true ≡ false → A
clash h = absurd (let two : true ≡ false = h in cc)

there : (c : Bool) (ops : List Op) (k : Ending) → c ≡ true → (p : Program) × (program_if c ops k ≡ Some p)
there true ops k h = (record { steps = ops; ending = k }, refl)
there false ops k h = clash (sym h)

pub programs_are_there : ProgramsAreThere
programs_are_there (assign d e) has is = there _ _ _ is
programs_are_there (formats run None) has is = clash (sym has)
programs_are_there (formats run (Some e)) has is = there _ _ _ is
programs_are_there (coded e) has is = there _ _ _ is
programs_are_there (shown e) has is = there _ _ _ is
programs_are_there (kill_one r) has is = there _ _ _ is
programs_are_there (kill_others names) has is = clash (sym has)
programs_are_there (new_one name) has is = clash (sym has)
programs_are_there (new_others names) has is = clash (sym has)
programs_are_there (tested e) has is = there _ _ _ is
programs_are_there (loop index parameters) has is = there _ _ _ is
programs_are_there (do_one e xs c) has is = there _ _ _ is
programs_are_there (go_to e c) has is = there _ _ _ is
programs_are_there (executed e c) has is = there _ _ _ is
programs_are_there (locked k names t) has is = there _ _ _ is
programs_are_there (hang_for e) has is = there _ _ _ is
programs_are_there (returned e) has is = there _ _ _ is
programs_are_there (merge_one target source) has is = there _ _ _ is
programs_are_there (indirect_args f p) has is = there _ _ _ is
