-- SPDX-License-Identifier: Apache-2.0
use Rattle.mtext.proofs.TextWords.{refl, rules, is_in, is_in_any, code_of, codes_of}
use Rattle.std.proofs.lemmas.List.Recursion.{or_is}
use Rattle.mtext.specs.declared.pattern.PatternCode.TheVariants as code
use Rattle.mtext.proofs.pattern.is_of_any.Goals as goal

pub returns : goal.returns
returns c =
    or_is (λ codes. is_in_any (codes_of codes) c.args.byte) (λ one. is_in (code_of one) c.args.byte) refl (λ _ _. refl) c.args.codes.now code.A c.any.result
    (search rules) (search rules)
