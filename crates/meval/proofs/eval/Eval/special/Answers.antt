-- SPDX-License-Identifier: Apache-2.0
use Rattle.meval.proofs.EvalLaws.{◌∙◌, ap, sym}
use Rattle.std.specs.Prelude.{option_map, Some}
use Rattle.mgrammar.specs.Specials.{special_of}
use Rattle.mtree.specs.Tree.{special_tree}
use Rattle.meval.proofs.eval.Eval.special.Goals as goal

pub returns-in-Some-Io : goal.returns-in-Some-Io
returns-in-Some-Io g c = rw (ap special_of (sym c.as_bytes.ensures.bytes) ∙ sym c.special_of.ensures ∙ ap (option_map special_tree) (c.in-Some-Io.is ∙ ap Some c.in-Some-Io.field-0-is)) c.terminal_number.ensures

pub returns-in-Some-Job : goal.returns-in-Some-Job
returns-in-Some-Job g c = rw (ap special_of (sym c.as_bytes.ensures.bytes) ∙ sym c.special_of.ensures ∙ ap (option_map special_tree) (c.in-Some-Job.is ∙ ap Some c.in-Some-Job.field-0-is)) c.terminal_number-in-Some-Job.ensures

pub returns-in-Some-Principal : goal.returns-in-Some-Principal
returns-in-Some-Principal g c = rw (ap special_of (sym c.as_bytes.ensures.bytes) ∙ sym c.special_of.ensures ∙ ap (option_map special_tree) (c.in-Some-Principal.is ∙ ap Some c.in-Some-Principal.field-0-is)) c.terminal_number-in-Some-Principal.ensures
