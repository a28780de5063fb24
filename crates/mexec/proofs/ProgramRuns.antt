-- SPDX-License-Identifier: Apache-2.0
-- Programs, a step at a time: what the code does up to where a level opens.
use Rattle.mexec.proofs.ExecWords.{◌≡◌, ℕ, zero, suc, ◌+◌, ◌<◌, Bool, true, false, List, [], ◌∷◌, Option, None, Some, Result, Ok, Err, slice_get, length}
use Rattle.mexec.proofs.ExecWords.{drop, refl, sym, ◌∙◌, subst, arith, ap, IsErr, IsErrAnd, Text, Act, ◌>>=◌, ◌>>◌, give, set_test, as_truth, Context, Go_on}
use Rattle.mexec.proofs.ExecWords.{context, depth_of, inside, position_of, assoc, Ghosts, Code, Parts, Does, DoesAt, completion_of, went}
use Rattle.mexec.proofs.ExecWords.{Completion}
use Rattle.std.specs.Prelude.{IfErr, IfOk, cond, ◌≤◌}
use Rattle.mgrammar.specs.Grammar.{EntryTree, no_exprs}
use Rattle.mmeaning.specs.LineMeaning as meaning
use Rattle.mspec.specs.Act.{fail}
use Rattle.mspec.specs.Code as spec
use Rattle.moperator.specs.declared.code.Code.TheVariants as code
use Rattle.mmeaning.specs.LineMeaning.{at_depth, where_true, truth_tested, returned_value}
use Rattle.mmeaning.specs.Expression.{Depth, Inside, attached, indirected}
use Rattle.mmeaning.specs.Variables.{Evaluated}
use Rattle.meval.specs.declared.depth.Depth as the_depth
use Rattle.mmeaning.specs.Operators.{as_number}
use Rattle.mmeaning.specs.Programs.{Item, one_value, some_values, some_numbers, some_names, found, placed, walked, made, handing, Op, Call, Unless, Pass}
use Rattle.mmeaning.specs.Programs.{Ending, plain, step, Pause}
use Rattle.mmeaning.specs.Programs.{sought, outside, Deeper, Attach, over, calls, begun_on, begun_past, begun}
use Rattle.mprogram.specs.Views.{op_view, ending_view}
use Rattle.mprogram.specs.Wholes.{WholeTree, steps_of, ending_of}
use Rattle.mprogram.specs.declared.op.Ending as the_ending
use Rattle.mprogram.specs.declared.op.Ending.TheVariants as ending
use Rattle.mprogram.specs.declared.op.Op as the_op
use Rattle.mprogram.specs.declared.op.Op.TheVariants as op
use Rattle.mcommand.specs.Conditions.{hung, truth_set}
use Rattle.mcommand.specs.Steps.{step_in, is_call, goes_with, handing_on_top, value_on_top, deeper_step, attach_step}
use Rattle.mcommand.proofs.StepsIn.{step_is}
use Rattle.mcommand.specs.Does.{DoesWithin}
use Rattle.mmeaning.specs.Yields.{Yields}
use Rattle.mmeaning.proofs.Yieldings.{yields_gives, yields_wanting}
use Rattle.moperator.specs.Codes.{fault_of}
use Rattle.mexec.specs.Programs.{calls_with, chosen_from, pause_of, pauses, ends, ends_with, IsNumber}
use Rattle.mexec.specs.declared.frames.Position as positions
use Rattle.mexec.specs.declared.programs.Pause as the_pause
use Rattle.mexec.specs.declared.programs.Pause.TheVariants as pause
use Rattle.mexec.specs.declared.completion.Completion.TheVariants as completion
use Rattle.mexec.proofs.Calls.{at_then, at_failed, at_stopped, at_gives, at_as, one_more}
use Rattle.mexec.proofs.LevelRuns.{at_any, at_yielded}
use Rattle.mexec.proofs.ProgramEnds.{ends_is}
use Rattle.mmeaning.proofs.ProgramSteps.{attached_alone}

-- ---- a list from a place on

-- what stands at a place comes first from there on
pub drop_at : {A : Type 0} (all : List A) (at : ℕ) (x : A) → slice_get all at ≡ Some x → drop at all ≡ x ∷ drop (at + 1) all
drop_at [] at x h = absurd (let clash : ◌≡◌ {A = Option _} None (Some x) = h in cc)
drop_at (y ∷ all) zero x h = let same : y ≡ x = cc in ap (λ z. z ∷ all) same
drop_at (y ∷ all) (suc at) x h =
    let same : suc at + 1 ≡ suc (at + 1) = omega arith in
    subst (λ n. drop at all ≡ x ∷ drop n (y ∷ all)) (sym same) (drop_at all at x h)

-- if nothing stands there, nothing is left
pub drop_past : {A : Type 0} (all : List A) (at : ℕ) → slice_get all at ≡ None → drop at all ≡ []
drop_past [] zero h = refl
drop_past [] (suc at) h = refl
drop_past (y ∷ all) zero h = absurd (let clash : ◌≡◌ {A = Option _} (Some y) None = h in cc)
drop_past (y ∷ all) (suc at) h = drop_past all at h

none_dropped : {A : Type 0} (n : ℕ) → ◌≡◌ {A = List A} (drop n []) []
none_dropped zero = refl
none_dropped (suc n) = refl

-- what is left of a list from a place on, from one of its places on
pub drop_further : {A : Type 0} (n at : ℕ) (all : List A) → drop n (drop at all) ≡ drop (at + n) all
drop_further n zero all = ap (λ m. drop m all) (let same : n ≡ zero + n = omega arith in same)
drop_further n (suc at) [] = none_dropped n ∙ sym (none_dropped (suc at + n))
drop_further n (suc at) (x ∷ all) =
    let same : suc (at + n) ≡ suc at + n = omega arith in
    drop_further n at all ∙ ap (λ m. drop m (x ∷ all)) same

-- a place at which something stands is one of the list
pub within_list : {A : Type 0} (all : List A) (at : ℕ) (x : A) → slice_get all at ≡ Some x → at < length all
within_list [] at x h = absurd (let clash : ◌≡◌ {A = Option _} None (Some x) = h in cc)
within_list (y ∷ all) zero x h = omega arith
within_list (y ∷ all) (suc at) x h = let rest = within_list all at x h in omega (arith, rest)

-- what is not something is nothing
pub no_item : {A : Type 0} (r : Option A) → ((x : A) → r ≡ Some x → ⊥) → r ≡ None
no_item None h = refl
no_item (Some x) h = absurd (h x refl)

-- a step of the code that is no call, passes no steps by, and leaves it as deep as it is
pub no_call : (o : the_op.Op) → ((e : _) → o ≡ op.Call e → ⊥) → ((v : _) → o ≡ op.Unless v → ⊥) → ((rest : _) → o ≡ op.Pass rest → ⊥)
    → (o ≡ op.Deeper → ⊥) → (o ≡ op.Attach → ⊥) → is_call (op_view o) ≡ false
no_call (op.Call e) entries values choices deeper back = absurd (entries e refl)
no_call (op.Unless v) entries values choices deeper back = absurd (values v refl)
no_call (op.Pass rest) entries values choices deeper back = absurd (choices rest refl)
no_call op.Deeper entries values choices deeper back = absurd (deeper refl)
no_call op.Attach entries values choices deeper back = absurd (back refl)
no_call o entries values choices deeper back = refl

-- ---- how far a jump goes

-- after a number of steps, and one more
pub number_further : (at count n last : ℕ) (r : Result ℕ Code) → last ≡ at + count → count ≡ n → IsNumber r (last + 1) → IsNumber r (at + suc n)
number_further at count n last r there same is = let to : last + 1 ≡ at + suc n = omega (arith, there, same) in subst (IsNumber r) to is

pub past_yields : (at n : ℕ) (st : List Item) (r : Result ℕ Code) → IsNumber r (at + n) → IfErr r (λ c. c ≡ code.Zmem)
    → Yields {A = ℕ × List Item} fault_of (give (at + n, st)) (λ (next : ℕ). (next, st)) r
past_yields at n st (Ok to) is wants =
    let same : ◌≡◌ {A = ℕ × List Item} (to, st) (at + n, st) = (λ i. (is.1 i, st)) in
    yields_gives {A = ℕ × List Item} (at + n, st) (λ (next : ℕ). (next, st)) to same
past_yields at n st (Err c) is wants = yields_wanting {A = ℕ × List Item} (give (at + n, st)) (λ (next : ℕ). (next, st)) code.Zmem (Err c) refl (refl, wants)

pub past_on : (at n : ℕ) (r : Result ℕ Code) → IsNumber r (at + n) → IfOk r (λ past. at ≤ past)
past_on at n (Ok to) is = omega (arith, is.1)
past_on at n (Err c) is = tt

-- ---- acts

module _ (x : Context) (d : Depth) where
  abbrev Same : Act Pause → Act Pause → Type 0
  Same p q = ◌≡◌ {A = Act Pause} p q

  -- a step that is no call
  step_begun : (o : Op) (ops : List Op) (k : Ending) (st : List Item) → is_call o ≡ false
      → Same (begun x d (o ∷ ops) k st) (step (at_depth x d) o st >>= begun_on (begun x d ops k))
  step_begun (Call e) ops k st h = absurd (let clash : true ≡ false = h in cc)
  step_begun (Unless n) ops k st h = absurd (let clash : true ≡ false = h in cc)
  step_begun (Pass n) ops k st h = absurd (let clash : true ≡ false = h in cc)
  step_begun Deeper ops k st h = absurd (let clash : true ≡ false = h in cc)
  step_begun Attach ops k st h = absurd (let clash : true ≡ false = h in cc)
  step_begun o ops k st h = refl

  pub begun_is : (o : Op) (ops : List Op) (k : Ending) (st : List Item) → is_call o ≡ false
      → Same (begun x d (o ∷ ops) k st) (step_in (plain (at_depth x d)) o st >>= begun_on (begun x d ops k))
  begun_is o ops k st h = step_begun o ops k st h ∙ (λ i. step_is (at_depth x d) o st h i >>= begun_on (begun x d ops k))

  -- the call of a function
  pub call_begun : (e : EntryTree) (ops : List Op) (k : Ending) (st : List Item)
      → Same (begun x d (Call e ∷ ops) k st) (handing_on_top st >>= (λ taken. give (calls d e taken.0.0 taken.0.1 ops taken.1)))
  call_begun e ops k [] = refl
  call_begun e ops k (one_value v ∷ st) = refl
  call_begun e ops k (some_values vs ∷ st) = refl
  call_begun e ops k (found r ∷ st) = refl
  call_begun e ops k (placed p ∷ st) = refl
  call_begun e ops k (walked p ∷ st) = refl
  call_begun e ops k (sought p ∷ st) = refl
  call_begun e ops k (made ps ∷ st) = refl
  call_begun e ops k (handing b bs ∷ st) = refl
  call_begun e ops k (some_numbers ns ∷ st) = refl
  call_begun e ops k (some_names ns ∷ st) = refl
  call_begun e ops k (outside c r ∷ st) = refl

  -- once steps are passed by, those after them are left
  past_begun : (n : ℕ) (ops : List Op) (k : Ending) (st : List Item) → Same (begun_past x d n ops k st) (begun x d (drop n ops) k st)
  past_begun zero ops k st = refl
  past_begun (suc n) [] k st = refl
  past_begun (suc n) (o ∷ ops) k st = past_begun n ops k st

  pub passed_begun : (at n : ℕ) (ops : List Op) (k : Ending) (st : List Item) → Same (begun_past x d n (drop at ops) k st) (begun x d (drop (at + n) ops) k st)
  passed_begun at n ops k st = past_begun n (drop at ops) k st ∙ ap (λ (rest : List Op). begun x d rest k st) (drop_further n at ops)

  -- the condition of a choice
  condition_begun : (n : ℕ) (ops : List Op) (k : Ending) (st : List Item)
      → Same (begun x d (Unless n ∷ ops) k st) (value_on_top st >>= (λ v. as_truth v.0 >>= (λ b. begun_past x d (cond b 0 n) ops k v.1)))
  condition_begun n ops k [] = refl
  condition_begun n ops k (one_value v ∷ st) = refl
  condition_begun n ops k (some_values vs ∷ st) = refl
  condition_begun n ops k (found r ∷ st) = refl
  condition_begun n ops k (placed p ∷ st) = refl
  condition_begun n ops k (walked p ∷ st) = refl
  condition_begun n ops k (sought p ∷ st) = refl
  condition_begun n ops k (made ps ∷ st) = refl
  condition_begun n ops k (handing b bs ∷ st) = refl
  condition_begun n ops k (some_numbers ns ∷ st) = refl
  condition_begun n ops k (some_names ns ∷ st) = refl
  condition_begun n ops k (outside c r ∷ st) = refl

  -- its value, or what comes after that
  either_begun : (b : Bool) (at n : ℕ) (ops : List Op) (k : Ending) (st : List Item)
      → Same (begun_past x d (cond b 0 n) (drop at ops) k st) (begun x d (drop (cond b at (at + n)) ops) k st)
  either_begun true at n ops k st = refl
  either_begun false at n ops k st = passed_begun at n ops k st

  pub chosen_begun : (at n : ℕ) (ops : List Op) (k : Ending) (st : List Item)
      → Same (begun x d (Unless n ∷ drop at ops) k st) (chosen_from at n st >>= (λ there. begun x d (drop there.0 ops) k there.1))
  chosen_begun at n ops k st =
      condition_begun n (drop at ops) k st
      ∙ (λ j. value_on_top st >>= (λ v. as_truth v.0 >>= (λ b. either_begun b at n ops k v.1 j)))
      ∙ sym (assoc {B = ℕ × List Item} (value_on_top st) (λ v. as_truth v.0 >>= (λ b. give (cond b at (at + n), v.1)))
      (λ there. begun x d (drop there.0 ops) k there.1)
      ∙ (λ j. value_on_top st >>=
      (λ v. assoc {B = ℕ × List Item} (as_truth v.0) (λ b. give (cond b at (at + n), v.1)) (λ there. begun x d (drop there.0 ops) k there.1) j)))

  -- an indirection deeper
  pub deeper_begun : (ops : List Op) (k : Ending) (st : List Item)
      → Same (begun x d (Deeper ∷ ops) k st) (deeper_step (plain (at_depth x d)) st >>= (λ there. begun x there.0 ops k there.1))
  deeper_begun ops k [] = refl
  deeper_begun ops k (one_value v ∷ st) =
      let rest = λ (r : Evaluated). begun x (indirected d) ops k (outside d r ∷ st) in
      (λ j. sym (attached_alone (plain (at_depth x d)) v) j >>= rest)
      ∙ sym (assoc {B = Depth × List Item} (attached (plain (at_depth x d)) no_exprs v) (λ r. give (indirected d, outside d r ∷ st))
      (λ there. begun x there.0 ops k there.1))
  deeper_begun ops k (some_values vs ∷ st) = refl
  deeper_begun ops k (found r ∷ st) = refl
  deeper_begun ops k (placed p ∷ st) = refl
  deeper_begun ops k (walked p ∷ st) = refl
  deeper_begun ops k (sought p ∷ st) = refl
  deeper_begun ops k (made ps ∷ st) = refl
  deeper_begun ops k (handing b bs ∷ st) = refl
  deeper_begun ops k (some_numbers ns ∷ st) = refl
  deeper_begun ops k (some_names ns ∷ st) = refl
  deeper_begun ops k (outside c r ∷ st) = refl

  -- and back
  pub attach_begun : (ops : List Op) (k : Ending) (st : List Item)
      → Same (begun x d (Attach ∷ ops) k st) (attach_step st >>= (λ there. begun x there.0 ops k there.1))
  attach_begun ops k [] = refl
  attach_begun ops k (one_value v ∷ st) = refl
  attach_begun ops k (some_values vs ∷ []) = refl
  attach_begun ops k (some_values vs ∷ one_value v ∷ st) = refl
  attach_begun ops k (some_values vs ∷ some_values ws ∷ st) = refl
  attach_begun ops k (some_values vs ∷ found r ∷ st) = refl
  attach_begun ops k (some_values vs ∷ placed p ∷ st) = refl
  attach_begun ops k (some_values vs ∷ walked p ∷ st) = refl
  attach_begun ops k (some_values vs ∷ sought p ∷ st) = refl
  attach_begun ops k (some_values vs ∷ made ps ∷ st) = refl
  attach_begun ops k (some_values vs ∷ handing b bs ∷ st) = refl
  attach_begun ops k (some_values vs ∷ some_numbers ns ∷ st) = refl
  attach_begun ops k (some_values vs ∷ some_names ns ∷ st) = refl
  attach_begun ops k (some_values vs ∷ outside c r ∷ st) = refl
  attach_begun ops k (found r ∷ st) = refl
  attach_begun ops k (placed p ∷ st) = refl
  attach_begun ops k (walked p ∷ st) = refl
  attach_begun ops k (sought p ∷ st) = refl
  attach_begun ops k (made ps ∷ st) = refl
  attach_begun ops k (handing b bs ∷ st) = refl
  attach_begun ops k (some_numbers ns ∷ st) = refl
  attach_begun ops k (some_names ns ∷ st) = refl
  attach_begun ops k (outside c r ∷ st) = refl

-- what a command does in the end with a value
pub ends_by_value : (x : Context) (k : the_ending.Ending) (st : List Item) → (k ≡ ending.Assign → ⊥)
    → ((e : _) (is_listed : Bool) → k ≡ ending.Enter e is_listed → ⊥) → ((e : _) → k ≡ ending.Go e → ⊥) → (k ≡ ending.Kill → ⊥) → (k ≡ ending.Merge → ⊥)
    → ((kind : _) (is_timed : Bool) → k ≡ ending.Lock kind is_timed → ⊥) → (k ≡ ending.Nothing → ⊥)
    → ((index : _) (rest : _) (body : _) → k ≡ ending.Loop index rest body → ⊥)
    → ◌≡◌ {A = Act Pause} (ends x (ending_view k) st) (value_on_top st >>= (λ v. ends_with (ending_view k) v.0))
ends_by_value x ending.Assign st assigns enters goes kills merges locks nothing loops = absurd (assigns refl)
ends_by_value x (ending.Enter e is_listed) st assigns enters goes kills merges locks nothing loops = absurd (enters e is_listed refl)
ends_by_value x (ending.Go e) st assigns enters goes kills merges locks nothing loops = absurd (goes e refl)
ends_by_value x ending.Kill st assigns enters goes kills merges locks nothing loops = absurd (kills refl)
ends_by_value x ending.Merge st assigns enters goes kills merges locks nothing loops = absurd (merges refl)
ends_by_value x (ending.Lock kind is_timed) st assigns enters goes kills merges locks nothing loops = absurd (locks kind is_timed refl)
ends_by_value x ending.Nothing st assigns enters goes kills merges locks nothing loops = absurd (nothing refl)
ends_by_value x (ending.Loop index rest body) st assigns enters goes kills merges locks nothing loops = absurd (loops index rest body refl)
ends_by_value x k st assigns enters goes kills merges locks nothing loops = refl

-- ---- calls

module _ {S : Type 0} {g : Ghosts S} (w : WholeTree) where
  -- what gives its completion
  pub pauses_over : {p : Text → ℕ → Act meaning.Completion} {old new : Parts S} (r : Result Completion Code) → DoesAt g p completion_of old r new
      → DoesAt g (λ a n. p a n >>= (λ s. give (over s))) (pause_of w) old (pauses r) new
  pauses_over (Ok s) d = at_then (λ a n s. give (over s)) d (at_gives (over (completion_of s)) (pause_of w) (pause.Over s) refl)
  pauses_over (Err c) d = at_failed (λ a n s. give (over s)) d

  -- what goes on with what is next
  pub goes_over : (p : Act (Unit {0})) {old new : Parts S} (r : Result (Unit {0}) Code) → Does g (λ i. p) (λ (u : Unit {0}). u) old r new
      → DoesAt g (λ a n. p >> give (over Go_on)) (pause_of w) old (pauses (went r)) new
  goes_over p (Ok u) d = at_then (λ a n _. give (over Go_on)) (at_any d) (at_gives (over Go_on) (pause_of w) (pause.Over completion.GoOn) refl)
  goes_over p (Err c) d = at_failed (λ a n _. give (over Go_on)) (at_any d)

  -- what goes on where a truth holds
  pub holds_over : (s : Completion) (b : Bool) {parts : Parts S} → completion_of s ≡ where_true b
      → DoesAt g (λ a n. give (over (where_true b))) (pause_of w) parts (Ok (pause.Over s)) parts
  holds_over s b same = at_gives (over (where_true b)) (pause_of w) (pause.Over s) (ap over same)

hung_is : (v : Text) → ◌≡◌ {A = Act Pause} (as_number v >> give (over Go_on)) (hung v >> give (over Go_on))
hung_is v = sym (assoc (as_number v) (λ _. give tt) (λ _. give (over Go_on)))

pub waits_over : {S : Type 0} {g : Ghosts S} (w : WholeTree) (v : Text) {old new : Parts S} (r : Result (Unit {0}) Code)
    → Does g (λ i. hung v) (λ (u : Unit {0}). u) old r new → DoesAt g (λ a n. as_number v >> give (over Go_on)) (pause_of w) old (pauses (went r)) new
waits_over w v r d = at_as (λ a n. hung_is v) (goes_over w (hung v) r d)

pub tested_is : (v : Text) → ◌≡◌ {A = Act Pause} (truth_tested v >>= (λ s. give (over s))) (truth_set v >>= (λ b. give (over (where_true b))))
tested_is v =
    assoc (as_truth v) (λ b. set_test b >> give (where_true b)) (λ s. give (over s))
    ∙ (λ j. as_truth v >>= (λ b. assoc (set_test b) (λ _. give (where_true b)) (λ s. give (over s)) j))
    ∙ sym (assoc (as_truth v) (λ b. set_test b >> give b) (λ b. give (over (where_true b)))
    ∙ (λ j. as_truth v >>= (λ b. assoc (set_test b) (λ _. give b) (λ b. give (over (where_true b))) j)))

-- ---- the value of a function

no_value : (s : Completion) → ((v : _) → s ≡ completion.Returns v → ⊥) → ◌≡◌ {A = Act Text} (returned_value (completion_of s)) (fail spec.M17)
no_value (completion.Returns v) h = absurd (h v refl)
no_value s h = refl

-- a completion without one
pub value_lacks : {S : Type 0} {g : Ghosts S} (s : Completion) → ((v : _) → s ≡ completion.Returns v → ⊥) → {parts : Parts S}
    → DoesAt g (λ a n. returned_value (completion_of s)) (λ (v : Text). v) parts (Err code.M17) parts
value_lacks s none = at_as (λ a n. no_value s none) (at_yielded (record { ends = λ s. refl }))

-- ---- a program from a place on, which is so deep, on a stack, where one text more may be entered than there are steps

abbrev pub From : {S : Type 0} (g : Ghosts S) (w : WholeTree) (p : positions.Position) → Depth → ℕ → List Item → Parts S → Result the_pause.Pause Code → Parts S
    → Type 0
From g w p d at st old r new = DoesAt g (λ a n. begun (context a (suc n) (position_of p)) d (drop at (steps_of w)) (ending_of w) st) (pause_of w) old r new

-- the steps after one, as deep as that says, on what it leaves
abbrev after_depth : WholeTree → positions.Position → ℕ → Text → ℕ → Depth × List Item → Act Pause
after_depth w p at a n there = begun (context a (suc n) (position_of p)) there.0 (drop (at + 1) (steps_of w)) (ending_of w) there.1

module _ {S : Type 0} {g : Ghosts S} (w : WholeTree) (p : positions.Position) (deep : Depth) where
  -- a step, where it is so deep
  pub step_at : {A X : Type 0} (q : Inside → Act A) {f : X → A} {old new : Parts S} {r : Result X Code} → depth_of old.eval.depth ≡ deep
      → DoesWithin g q f old r new → DoesAt g (λ a n. q (inside a (suc n) deep)) f old r new
  step_at q same k = rw (sym same) (record { at = λ sure. k.at sure; doubt = k.doubt; keeps = k.keeps })

  from_steps : (at : ℕ) (o : Op) (st : List Item) → slice_get (steps_of w) at ≡ Some o → {old new : Parts S} {r : Result the_pause.Pause Code}
      → DoesAt g (λ a n. begun (context a (suc n) (position_of p)) deep (o ∷ drop (at + 1) (steps_of w)) (ending_of w) st) (pause_of w) old r new
      → From g w p deep at st old r new
  from_steps at o st there {old = old} {new = new} {r = r} d =
      subst (λ ops. DoesAt g (λ a n. begun (context a (suc n) (position_of p)) deep ops (ending_of w) st) (pause_of w) old r new)
      (sym (drop_at (steps_of w) at o there)) d

  -- the call of a function
  pub comes_to_call : (at : ℕ) (e : EntryTree) (st : List Item) → slice_get (steps_of w) at ≡ Some (Call e)
      → {old new : Parts S} {r : Result the_pause.Pause Code} → DoesAt g (λ a n. calls_with w deep e (at + 1) st)
      (pause_of w) old r new → From g w p deep at st old r new
  comes_to_call at e st there d =
      from_steps at (Call e) st there (at_as (λ a n. call_begun (context a (suc n) (position_of p)) deep e (drop (at + 1) (steps_of w)) (ending_of w) st) d)

  -- where no step is left
  pub comes_to_end : (at : ℕ) (st : List Item) → slice_get (steps_of w) at ≡ None → {old new : Parts S} {r : Result the_pause.Pause Code}
      → DoesAt g (λ a n. ends (context a n (position_of p)) (ending_of w) st) (pause_of w) old r new → From g w p deep at st old r new
  comes_to_end at st none {old = old} {new = new} {r = r} d =
      subst (λ ops. DoesAt g (λ a n. begun (context a (suc n) (position_of p)) deep ops (ending_of w) st) (pause_of w) old r new)
      (sym (drop_past (steps_of w) at none))
      (at_as (λ a n. ends_is (context a (suc n) (position_of p)) (ending_of w) st)
      (one_more (λ a n. ends (context a n (position_of p)) (ending_of w) st) d))

  -- the condition of a choice, which is on top
  module _ (at n : ℕ) (st : List Item) (there : slice_get (steps_of w) at ≡ Some (Unless n)) {old : Parts S} where
    by_choice : {new : Parts S} {r : Result the_pause.Pause Code}
        → DoesAt g (λ a m. chosen_from (at + 1) n st >>= (λ to. begun (context a (suc m) (position_of p)) deep (drop to.0 (steps_of w)) (ending_of w) to.1))
        (pause_of w) old r new → From g w p deep at st old r new
    by_choice d =
        from_steps at (Unless n) st there (at_as (λ a m. chosen_begun (context a (suc m) (position_of p)) deep (at + 1) n (steps_of w) (ending_of w) st) d)

    pub choice_goes_on : (to : ℕ) (st' : List Item) {new : Parts S} {r : Result the_pause.Pause Code}
        → Yields {E = Code} fault_of (chosen_from (at + 1) n st) (λ (next : ℕ). (next, st'))
        (Ok to) → From g w p deep to st' old r new → From g w p deep at st old r new
    choice_goes_on to st' y k =
        by_choice (at_then (λ a m to. begun (context a (suc m) (position_of p)) deep (drop to.0 (steps_of w)) (ending_of w) to.1) (at_yielded y) k)

    pub choice_stopped : (st' : List Item) {r : Result the_pause.Pause Code} {e : Code}
        → Yields fault_of (chosen_from (at + 1) n st) (λ (next : ℕ). (next, st')) (Err e) → IsErr r × IsErrAnd r (λ x. x ≡ e) → From g w p deep at st old r old
    choice_stopped st' y h =
        by_choice (at_stopped (λ a m to. begun (context a (suc m) (position_of p)) deep (drop to.0 (steps_of w)) (ending_of w) to.1) (at_yielded y) h)

  -- steps that are passed by
  pub passes_by : (at n : ℕ) (st : List Item) → slice_get (steps_of w) at ≡ Some (Pass n) → {old new : Parts S} {r : Result the_pause.Pause Code}
      → From g w p deep (at + 1 + n) st old r new → From g w p deep at st old r new
  passes_by at n st there d =
      from_steps at (Pass n) st there (at_as (λ a m. passed_begun (context a (suc m) (position_of p)) deep (at + 1) n (steps_of w) (ending_of w) st) d)

  module _ (at : ℕ) (o : Op) (st st' : List Item) (there : slice_get (steps_of w) at ≡ Some o) (quiet : is_call o ≡ false) {old : Parts S}
      (same : depth_of old.eval.depth ≡ deep) where
    by_step : {new : Parts S} {r : Result the_pause.Pause Code}
        → DoesAt g (λ a n. step_in (inside a (suc n) deep) o st
        >>= begun_on (begun (context a (suc n) (position_of p)) deep (drop (at + 1) (steps_of w)) (ending_of w))) (pause_of w) old r new
        → From g w p deep at st old r new
    by_step d =
        from_steps at o st there (at_as (λ a n. begun_is (context a (suc n) (position_of p)) deep o (drop (at + 1) (steps_of w)) (ending_of w) st quiet) d)

    -- a step is done, and then the others
    pub step_goes_on : {mid new : Parts S} {r : Result the_pause.Pause Code}
        → DoesWithin g (λ i. step_in i o st) (λ (goes : Bool). goes_with goes st') old (Ok true) mid
        → From g w p (depth_of mid.eval.depth) (at + 1) st' mid r new → From g w p deep at st old r new
    step_goes_on {mid = mid} {new = new} {r = r} h k =
        by_step (at_then (λ a n. begun_on (begun (context a (suc n) (position_of p)) deep (drop (at + 1) (steps_of w)) (ending_of w)))
        (step_at (λ i. step_in i o st) same h)
        (subst (λ d. From g w p d (at + 1) st' mid r new) (ap depth_of h.depth ∙ same) k))

    -- one after which the argument ends
    pub step_ends : {mid : Parts S} → DoesWithin g (λ i. step_in i o st) (λ (goes : Bool). goes_with goes st') old (Ok false) mid
        → From g w p deep at st old (Ok (pause.Over completion.GoOn)) mid
    step_ends h =
        by_step
        (at_then (λ a n. begun_on (begun (context a (suc n) (position_of p)) deep (drop (at + 1) (steps_of w)) (ending_of w)))
        (step_at (λ i. step_in i o st) same h)
        (at_gives (over Go_on) (pause_of w) (pause.Over completion.GoOn) refl))

    pub step_stopped : {new : Parts S} {r : Result the_pause.Pause Code} {e : Code}
        → DoesWithin g (λ i. step_in i o st) (λ (goes : Bool). goes_with goes st') old (Err e) new → IsErr r × IsErrAnd r (λ x. x ≡ e)
        → From g w p deep at st old r new
    step_stopped h stopped =
        by_step (at_stopped (λ a n. begun_on (begun (context a (suc n) (position_of p)) deep (drop (at + 1) (steps_of w)) (ending_of w)))
        (step_at (λ i. step_in i o st) same h) stopped)

  -- an indirection deeper, and back: what follows is as deep as the step says
  module _ (at : ℕ) (st st' : List Item) {old : Parts S} where
    by_depth : (o : Op) (q : Inside → Act (Depth × List Item)) → slice_get (steps_of w) at ≡ Some o
        → ((x : Context) (ops : List Op) (k : Ending) → ◌≡◌ {A = Act Pause} (begun x deep (o ∷ ops) k st)
        (q (plain (meaning.at_depth x deep)) >>= (λ there. begun x there.0 ops k there.1)))
        → {new : Parts S} {r : Result the_pause.Pause Code}
        → DoesAt g
        (λ a n. q (inside a (suc n) deep) >>= (λ there. begun (context a (suc n) (position_of p)) there.0 (drop (at + 1) (steps_of w)) (ending_of w) there.1))
        (pause_of w) old r new → From g w p deep at st old r new
    by_depth o q there is k = from_steps at o st there (at_as (λ a n. is (context a (suc n) (position_of p)) (drop (at + 1) (steps_of w)) (ending_of w)) k)

    pub goes_deeper : slice_get (steps_of w) at ≡ Some Deeper → depth_of old.eval.depth ≡ deep
        → {mid new : Parts S} {to : the_depth.Depth} {r : Result the_pause.Pause Code}
        → DoesWithin g (λ i. deeper_step i st) (λ (depth : the_depth.Depth). (depth_of depth, st')) old (Ok to) mid
        → From g w p (depth_of to) (at + 1) st' mid r new → From g w p deep at st old r new
    goes_deeper there same h k =
        by_depth Deeper (λ i. deeper_step i st) there (λ x ops e. deeper_begun x deep ops e st) (at_then (after_depth w p at)
        (step_at (λ i. deeper_step i st) same h) k)

    pub deeper_stopped : slice_get (steps_of w) at ≡ Some Deeper → depth_of old.eval.depth ≡ deep → {new : Parts S} {r : Result the_pause.Pause Code} {e : Code}
        → DoesWithin g (λ i. deeper_step i st) (λ (depth : the_depth.Depth). (depth_of depth, st')) old (Err e) new → IsErr r × IsErrAnd r (λ x. x ≡ e)
        → From g w p deep at st old r new
    deeper_stopped there same h stopped =
        by_depth Deeper (λ i. deeper_step i st) there (λ x ops e. deeper_begun x deep ops e st) (at_stopped (after_depth w p at)
        (step_at (λ i. deeper_step i st) same h) stopped)

    pub comes_back : slice_get (steps_of w) at ≡ Some Attach → {new : Parts S} {to : the_depth.Depth} {r : Result the_pause.Pause Code}
        → Yields {E = Code} fault_of (attach_step st) (λ (depth : the_depth.Depth). (depth_of depth, st')) (Ok to)
        → From g w p (depth_of to) (at + 1) st' old r new → From g w p deep at st old r new
    comes_back there y k = by_depth Attach (λ i. attach_step st) there (λ x ops e. attach_begun x deep ops e st) (at_then (after_depth w p at) (at_yielded y) k)

    pub back_stopped : slice_get (steps_of w) at ≡ Some Attach → {r : Result the_pause.Pause Code} {e : Code}
        → Yields fault_of (attach_step st) (λ (depth : the_depth.Depth). (depth_of depth, st')) (Err e) → IsErr r × IsErrAnd r (λ x. x ≡ e)
        → From g w p deep at st old r old
    back_stopped there y stopped =
        by_depth Attach (λ i. attach_step st) there (λ x ops e. attach_begun x deep ops e st) (at_stopped (after_depth w p at) (at_yielded y) stopped)
