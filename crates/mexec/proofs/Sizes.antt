-- SPDX-License-Identifier: Apache-2.0
-- How much frames count, and what a loss lets fall.
use Rattle.mexec.proofs.ExecWords.{◌≡◌, ℕ, ◌+◌, ◌≤◌, ◌++◌, Bool, true, false, List, [], ◌∷◌, Result, Ok, Err, IfOk, refl, ap, arith}
use Rattle.mexec.proofs.ExecWords.{ArgTree, Position, View, Lists, view}
use Rattle.mmeaning.specs.Frames.{Programs}
use Rattle.mexec.specs.declared.frames.Frame.{Frame}
use Rattle.mexec.specs.declared.frames.Frame.TheVariants as frame
use Rattle.mexec.specs.Falls.{size, weight}

-- one more frame
pub size_push : (fs : List Frame) (f : Frame) → size (fs ++ f ∷ []) ≡ size fs + weight f
size_push [] f = omega arith
size_push (g ∷ fs) f = let rest = size_push fs f in omega (arith, rest)

-- what falls by more falls with one frame fewer
pub falls_further : {X E : Type 0} (left from to : ℕ) (r : Result X E) → from + 1 ≤ to → IfOk r (λ _. left ≤ from) → IfOk r (λ _. left + 1 ≤ to)
falls_further left from to (Ok x) few h = omega (arith, few, h)
falls_further left from to (Err e) few h = tt

is_program : View → Bool
is_program (Programs p d ops k st) = true
is_program v = false

-- a frame of arguments is not that of a program
pub lists_weigh : (f : Frame) (p : Position) (args : List ArgTree) → view f ≡ Lists p args → weight f ≡ 1
unfolding is_program
lists_weigh (frame.Program s) p args h = absurd (let clash : true ≡ false = ap is_program h in cc)
lists_weigh f p args h = refl
