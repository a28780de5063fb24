-- SPDX-License-Identifier: Apache-2.0
-- Lines, frame by frame.
use Rattle.mexec.proofs.ExecWords.{Doubts-same, Doubts-then, undoubted, ◌≡◌, ℕ, ◌≤◌, List, [], ◌∷◌, Result, Ok, Err, refl, sym, ◌∙◌, subst, arith, IsErr}
use Rattle.mexec.proofs.ExecWords.{IsErrAnd, Text, Act, ArgTree, CommandTree, stays, top_level, run_within, context, commands, arguments, Standing, Here}
use Rattle.mexec.proofs.ExecWords.{Follows, FailedBy, View, Rests, Lists, Levels, left, frame, Enough, MovedAs, MovedOn, residual_is, follows_itself}
use Rattle.mexec.proofs.ExecWords.{follows_on, failed_after, Ghosts, fault_of, Code, standing_of, Parts, DoesAt, here_of, Runs, Leads, completion_of}
use Rattle.mexec.proofs.ExecWords.{keeps_itself, keeps_on, Completion}
use Rattle.mmeaning.specs.LineMeaning as meaning
use Rattle.mmeaning.proofs.LevelMoves.{line_begins}
use Rattle.mnodes.specs.Steady.{IsSteady}
use Rattle.mexec.specs.declared.completion.Completion.TheVariants as completion
use Rattle.mspec.specs.Act.{give}
use Rattle.mmeaning.specs.Frames.{Conditions, Fits}
use Rattle.mmeaning.specs.Programs.{once_true}
use Rattle.mexec.specs.Frames.{RunsIf, RunsWithin}
use Rattle.mexec.proofs.Calls.{passes, runs_as, runs_completion}

-- a command is not done whose condition does not hold
once_false : (s : Completion) (q : Act meaning.Completion) → (s ≡ completion.GoOn → ⊥)
    → ◌≡◌ {A = Act meaning.Completion} (once_true q (completion_of s)) (give meaning.Go_on)
once_false completion.GoOn q not_go = absurd (not_go refl)
once_false s q not_go = refl

module _ {S : Type 0} {g : Ghosts S} where
  -- a line's rest, and its level
  pub leads_first : (cs : List CommandTree) (parts : Parts S)
      → Leads g (λ a n. run_within a n cs) parts (Rests top_level cs ∷ Levels top_level stays ∷ []) meaning.Go_on parts
  leads_first cs parts = record {
    doubt = Doubts-same _;
    at = λ sure n le. (n ∷ n ∷ [], (le, (le, tt)), begins (standing_of parts.eval) n (here_of g parts));
    keeps = keeps_itself parts;
  }
    where
      begins : (b : Standing) (n : ℕ) (h : Here)
          → Follows b (run_within b.account n cs) h (left b.account (Rests top_level cs ∷ Levels top_level stays ∷ []) (n ∷ n ∷ []) meaning.Go_on) h
      begins b n h =
          subst (λ (q : Act meaning.Completion). Follows b (run_within b.account n cs) h q h) (line_begins b.account n cs)
          (follows_itself b (run_within b.account n cs) h)

  module _ (p : Text → ℕ → Act meaning.Completion) (f : View) (fs : List View) {s : meaning.Completion} {old mid new : Parts S} (d : Leads g p old (f ∷ fs) s mid) where
    -- what the frame on top does, stated from where the line began
    moved : {fs' : List View} {r : Result Completion Code} → RunsIf (Fits f) g (λ a n. frame a n f s) fs mid r fs' new
        → (sure : g.doubt new.eval.store.now ≡ 0) (m : ℕ) (ms : List ℕ) → Fits f mid.eval.steps m → Enough mid.eval.steps fs ms
        → MovedAs {X = Completion} (standing_of old.eval) (IsSteady g new.eval.store.now) fault_of completion_of (left (standing_of old.eval).account (f ∷ fs) (m ∷ ms) s) (here_of g mid) r fs' (here_of g new)
    moved {fs' = fs'} {r = r} k sure m ms le e =
        let here =
        subst (λ b. MovedOn b (IsSteady g new.eval.store.now) fault_of completion_of (frame b.account m f s) (left b.account fs ms) (here_of g mid) r fs' (here_of g new)) d.keeps.eval.same (k.at sure m ms le e)
        in
        here.done

    pub leads_on : {fs' : List View} {s' : Completion} → RunsIf (Fits f) g (λ a n. frame a n f s) fs mid (Ok s') fs' new
        → Leads g p old fs' (completion_of s') new
    leads_on {fs' = fs'} {s' = s'} k = record {
      at = λ sure n le. go sure n (d.at (undoubted k.doubt sure) n le);
      doubt = Doubts-then d.doubt k.doubt;
      keeps = keeps_on d.keeps k.keeps;
    }
      where
        go : g.doubt new.eval.store.now ≡ 0 → (n : ℕ)
            → (ns : List ℕ) × Enough mid.eval.steps (f ∷ fs) ns × Follows (standing_of old.eval) (p (standing_of old.eval).account n) (here_of g old) (left (standing_of old.eval).account (f ∷ fs) ns s) (here_of g mid)
            → (ns : List ℕ) × Enough new.eval.steps fs' ns × Follows (standing_of old.eval) (p (standing_of old.eval).account n) (here_of g old) (left (standing_of old.eval).account fs' ns (completion_of s')) (here_of g new)
        go sure n ([], e, follows) = absurd e
        go sure n (m ∷ ms, e, follows) =
            let b = standing_of old.eval in
            let done = moved k sure m ms e.0 e.1 in
            (done.0, done.1, follows_on b (p b.account n) (left b.account (f ∷ fs) (m ∷ ms) s) (left b.account fs' done.0 (completion_of s')) (here_of g old) (here_of g mid) (here_of g new) follows done.2)

    pub leads_stopped : {fs' : List View} {e : Code} {r : Result Completion Code} → RunsIf (Fits f) g (λ a n. frame a n f s) fs mid (Err e) fs' new
        → IsErr r × IsErrAnd r (λ x. x ≡ e) → DoesAt g p completion_of old r new
    leads_stopped {e = e} {r = r} k h =
        let keeps = keeps_on d.keeps k.keeps in
        let few = keeps.eval.fewer in
        subst (λ r. DoesAt g p completion_of old r new) (sym (residual_is r e h)) (record {
          doubt = Doubts-then d.doubt k.doubt;
          at = λ sure. record {
            at = λ n le. go sure n (d.at (undoubted k.doubt sure) n le);
            fewer = few;
          };
          keeps = keeps;
        })
      where
        go : (sure : g.doubt new.eval.store.now ≡ 0) (n : ℕ)
            → (ns : List ℕ) × Enough mid.eval.steps (f ∷ fs) ns × Follows (standing_of old.eval) (p (standing_of old.eval).account n) (here_of g old) (left (standing_of old.eval).account (f ∷ fs) ns s) (here_of g mid)
            → FailedBy (standing_of old.eval) (IsSteady g new.eval.store.now) (p (standing_of old.eval).account n) (here_of g old) (fault_of e) (here_of g new)
        go sure n ([], enough, follows) = absurd enough
        go sure n (m ∷ ms, enough, follows) =
            let b = standing_of old.eval in
            failed_after b (IsSteady g new.eval.store.now) (p b.account n) (left b.account (f ∷ fs) (m ∷ ms) s) (here_of g old) (here_of g mid) (fault_of e) (here_of g new) follows (moved k sure m ms enough.0 enough.1)

  pub leads_ends : (p : Text → ℕ → Act meaning.Completion) (s : Completion) {old new : Parts S} → Leads g p old [] (completion_of s) new
      → DoesAt g p completion_of old (Ok s) new
  leads_ends p s d = record {
    doubt = d.doubt;
    at = λ sure. record {
      at = λ n le. let here = d.at sure n le in let follows = here.2 in follows.whole;
      fewer = d.keeps.eval.fewer;
    };
    keeps = d.keeps;
  }

  -- a completion that passes the rest of a line
  pub rest_passes : {fs : List View} {parts : Parts S} (p : meaning.Position) (cs : List CommandTree) (s : Completion) → (s ≡ completion.GoOn → ⊥)
      → Runs g (λ a n. frame a n (Rests p cs) (completion_of s)) fs parts (Ok s) fs parts
  rest_passes p cs s not_go = runs_as (λ a n. passes s (commands (context a n p) cs) not_go) (runs_completion s)

  -- and of a command's arguments
  pub list_passes : {fs : List View} {parts : Parts S} (p : meaning.Position) (args : List ArgTree) (s : Completion) → (s ≡ completion.GoOn → ⊥)
      → RunsWithin g (λ a n. frame a n (Lists p args) (completion_of s)) fs parts (Ok s) fs parts
  list_passes p args s not_go = runs_as (λ a n. passes s (arguments (context a n p) args) not_go) (runs_completion s)

  -- and of a command whose condition does not hold
  pub condition_fails : {fs : List View} {parts : Parts S} (p : meaning.Position) (c : CommandTree) (rest : List CommandTree) (s : Completion)
      → (s ≡ completion.GoOn → ⊥)
      → RunsWithin g (λ a n. frame a n (Conditions p c rest) (completion_of s)) fs parts (Ok completion.GoOn) fs parts
  condition_fails p c rest s not_go =
      runs_as (λ a n. once_false s (meaning.effect (context a n p) c.keyword c.args rest) not_go) (runs_completion completion.GoOn)
