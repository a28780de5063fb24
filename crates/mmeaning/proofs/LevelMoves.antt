-- SPDX-License-Identifier: Apache-2.0
-- Levels as frames: what a text that is entered pushes, as equations of what the frames have then to do.
use Rattle.mmeaning.proofs.MeaningWords.{◌≡◌, ℕ, suc, List, [], ◌∷◌, sym, ap, ◌∙◌, CommandTree, Text, Act, ◌>>=◌, run_within, top_level, Completion, Go_on}
use Rattle.mmeaning.proofs.MeaningWords.{Position, Closing, texts, context, commands, after_level, closed, stays, View, Rests, Levels, left}
use Rattle.mmeaning.proofs.Calls.{assoc, ended}

module _ (a : Text) (fs : List View) (ns : List ℕ) where
  -- a text that is entered in a level is on top of its frame
  pub text_entered : (n : ℕ) (p : Position) (c : Closing) (cs : List CommandTree)
      → ◌≡◌ {A = Act Completion} ((texts a (suc n)).enter p cs >>= closed c >>= left a fs ns) (left a (Rests p cs ∷ Levels p c ∷ fs) (n ∷ n ∷ ns) Go_on)
  text_entered n p c cs =
      ap (λ (q : Act Completion). q >>= left a fs ns) (assoc (commands (context a n p) cs) (after_level (context a n p)) (closed c))
      ∙ assoc (commands (context a n p) cs) (λ s. after_level (context a n p) s >>= closed c) (left a fs ns)

-- a line of a terminal: its commands on top of the outermost level, which doesn't close
pub line_begins : (a : Text) (n : ℕ) (cs : List CommandTree) → ◌≡◌ {A = Act Completion} (run_within a n cs) (left a (Rests top_level cs ∷ Levels top_level stays ∷ []) (n ∷ n ∷ []) Go_on)
line_begins a n cs = sym (ended (run_within a n cs)) ∙ text_entered a [] [] n top_level stays cs
