-- SPDX-License-Identifier: Apache-2.0
-- How levels close: a value is wanted of a function's alone.
use Rattle.mexec.proofs.ExecWords.{◌≡◌, Bool, true, false, refl, Text, Act, ◌>>◌, give, Closing, stays, leaves, restores, closed, Completion, completion_of}
use Rattle.mspec.specs.Act.{fail}
use Rattle.mspec.specs.Code.{M16, M17}
use Rattle.mmeaning.specs.Levels.{answers, wants, closing}
use Rattle.mmeaning.specs.LineMeaning as meaning
use Rattle.std.proofs.Common.{◌⊎◌, inl, inr}
use Rattle.mspec.specs.Act.{with_locals, set_test}
use Rattle.mspec.specs.Scopes.{without_level}
use Rattle.mexec.specs.Frames.{closing_of}
use Rattle.mexec.specs.declared.frames.Closing as closings
use Rattle.mexec.specs.declared.frames.Closing.TheVariants as the_closing
use Rattle.mexec.specs.declared.completion.Completion.TheVariants as completion

-- one that restores $TEST, a function's or not
pub closing_restores : (c : closings.Closing) (b : Bool) → (c ≡ the_closing.Restores b) ⊎ (c ≡ the_closing.Answers b) → ◌≡◌ {A = Act (Unit {0})} (closing (closing_of c)) (with_locals without_level >> set_test b)
closing_restores c b (inl e) = rw e refl
closing_restores c b (inr e) = rw e refl

-- the value that is wanted
pub value_taken : (c : Closing) (v : Text) → wants c ≡ true → ◌≡◌ {A = Act meaning.Completion} (closed c (meaning.Returns v)) (closing c >> give (meaning.Returns v))
value_taken (answers b) v wanted = refl
value_taken stays v wanted = absurd cc
value_taken leaves v wanted = absurd cc
value_taken (restores b) v wanted = absurd cc

pub value_refused : (c : Closing) (v : Text) → wants c ≡ false → ◌≡◌ {A = Act meaning.Completion} (closed c (meaning.Returns v)) (fail M16)
value_refused (answers b) v unwanted = absurd cc
value_refused stays v unwanted = refl
value_refused leaves v unwanted = refl
value_refused (restores b) v unwanted = refl

-- without one
pub value_missed : (c : Closing) (s : Completion) → wants c ≡ true → ((v : _) → s ≡ completion.Returns v → ⊥) → ◌≡◌ {A = Act meaning.Completion} (closed c (completion_of s)) (fail M17)
value_missed (answers b) (completion.Returns v) wanted none = absurd (none v refl)
value_missed (answers b) s wanted none = refl
value_missed stays s wanted none = absurd cc
value_missed leaves s wanted none = absurd cc
value_missed (restores b) s wanted none = absurd cc

pub closed_plainly : (c : Closing) (s : Completion) → wants c ≡ false → ((v : _) → s ≡ completion.Returns v → ⊥) → ◌≡◌ {A = Act meaning.Completion} (closed c (completion_of s)) (closing c >> give (completion_of s))
closed_plainly c (completion.Returns v) unwanted none = absurd (none v refl)
closed_plainly (answers b) s unwanted none = absurd cc
closed_plainly stays s unwanted none = refl
closed_plainly leaves s unwanted none = refl
closed_plainly (restores b) s unwanted none = refl
