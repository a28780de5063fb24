-- SPDX-License-Identifier: Apache-2.0
-- The program of an argument or of a condition has the steps of the whole, and its ending.
use Rattle.std.proofs.Common.{◌≡◌, Bool, true, false, List, Option, Some, None, refl, sym, ap, ◌∙◌}
use Rattle.mgrammar.specs.Grammar.{assign, formats, coded, shown, kill_one, kill_others, new_one, new_others, tested, loop, do_one, go_to}
use Rattle.mgrammar.specs.Grammar.{executed, locked, hang_for, returned, merge_one, indirect_args}
use Rattle.mmeaning.specs.Programs.{Op, Ending, Program, program_if}
use Rattle.mmeaning.proofs.ProgramsThere.{programs_are_there}
use Rattle.mprogram.specs.StepLaws.{ProgramsHaveSteps, ConditionsHaveSteps, CallsHavePrograms, ConditionsHavePrograms, ParametersHavePrograms}

-- a program that there is
parts : (c : Bool) (ops : List Op) (k : Ending) (p : Program) → program_if c ops k ≡ Some p → (p.steps ≡ ops) × (p.ending ≡ k)
parts true ops k p h = let same : p ≡ record { steps = ops; ending = k } = cc in (ap (λ (q : Program). q.steps) same, ap (λ (q : Program). q.ending) same)
parts false ops k p h = absurd (let clash : ◌≡◌ {A = Option Program} None (Some p) = h in cc)

-- there is none
lacking : {A : Type 0} (p : Program) → ◌≡◌ {A = Option Program} None (Some p) → A
lacking p h = absurd (let clash : ◌≡◌ {A = Option Program} None (Some p) = h in cc)

of_parts : (ops : List Op) (k : Ending) (p : Program) → p.steps ≡ ops → p.ending ≡ k → p ≡ record { steps = ops; ending = k }
of_parts ops k p s e = rw (sym s) (rw (sym e) refl)

pub programs_have_steps : ProgramsHaveSteps
programs_have_steps (assign d e) p h = parts _ _ _ p h
programs_have_steps (formats run None) p h = lacking p h
programs_have_steps (formats run (Some e)) p h = parts _ _ _ p h
programs_have_steps (coded e) p h = parts _ _ _ p h
programs_have_steps (shown e) p h = parts _ _ _ p h
programs_have_steps (kill_one r) p h = parts _ _ _ p h
programs_have_steps (kill_others names) p h = lacking p h
programs_have_steps (new_one name) p h = lacking p h
programs_have_steps (new_others names) p h = lacking p h
programs_have_steps (tested e) p h = parts _ _ _ p h
programs_have_steps (loop index parameters) p h = parts _ _ _ p h
programs_have_steps (do_one e xs c) p h = parts _ _ _ p h
programs_have_steps (go_to e c) p h = parts _ _ _ p h
programs_have_steps (executed e c) p h = parts _ _ _ p h
programs_have_steps (locked k names t) p h = parts _ _ _ p h
programs_have_steps (hang_for e) p h = parts _ _ _ p h
programs_have_steps (returned e) p h = parts _ _ _ p h
programs_have_steps (merge_one target source) p h = parts _ _ _ p h
programs_have_steps (indirect_args f g) p h = parts _ _ _ p h

pub conditions_have_steps : ConditionsHaveSteps
conditions_have_steps e p h = parts _ _ _ p h

pub calls_have_programs : CallsHavePrograms
calls_have_programs a has is =
    let there = programs_are_there a has is in
    let of_whole = programs_have_steps a there.0 there.1 in
    there.1 ∙ ap Some (of_parts _ _ there.0 of_whole.0 of_whole.1)

there_if : (c : Bool) (ops : List Op) (k : Ending) → c ≡ true → program_if c ops k ≡ Some (record { steps = ops; ending = k })
there_if c ops k is = rw is refl

pub conditions_have_programs : ConditionsHavePrograms
conditions_have_programs e is = there_if _ _ _ is

pub parameters_have_programs : ParametersHavePrograms
parameters_have_programs index q rest body is = there_if _ _ _ is
