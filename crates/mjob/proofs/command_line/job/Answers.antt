-- SPDX-License-Identifier: Apache-2.0
use Rattle.std.proofs.Common.{◌∙◌, ap, refl, subst, inl, inr, map, string_bytes}
use Rattle.clap.specs.Words.{App, IsAmong, fault_of, is_simple_and_free, kind_of}
use Rattle.mjob.proofs.command_line.job.Goals as goal

pub returns-in-Err-try_get_matches_from-clause-refused : goal.returns-in-Err-try_get_matches_from-clause-refused
returns-in-Err-try_get_matches_from-clause-refused c =
    let told = c.in-Err-try_get_matches_from in
    elim (told.ensures.kinds (ap is_simple_and_free c.in-Ok.ensures ∙ refl)) [
      | inl memory ↦ rw (c.fault_of_error.ensures.memory memory) tt
      | inr among ↦ elim c.fault_of_error.ensures.which [
        | inl e ↦ rw e tt
        | inr e ↦ rw e (subst (λ (a : App). IsAmong (kind_of told.error) (fault_of a (map string_bytes c.args.words.now))) c.in-Ok.ensures among)
      ]
    ]
