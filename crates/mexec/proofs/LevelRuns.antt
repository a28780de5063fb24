-- SPDX-License-Identifier: Apache-2.0
-- Lines and texts that are entered, frame by frame.
use Rattle.mexec.proofs.ExecWords.{Doubts-same, ◌≡◌, ℕ, zero, suc, ◌<◌, ◌≤◌, ◌+◌, Bool, true, false, cond, List, [], ◌∷◌, Option, Some, None, Result, Ok, Err}
use Rattle.mexec.proofs.ExecWords.{length, drop, get_or, is_some, slice_get, refl, sym, ap, ◌∙◌, subst, le-ltb, lt-ltb, arith, drop-drop, get_or-drop, IsErr}
use Rattle.mexec.proofs.ExecWords.{IsErrAnd, Text, Act, ◌>>=◌, ◌>>◌, give, give_some, charge, ArgTree, CommandTree, BodyTree, short, spaced_out}
use Rattle.mexec.proofs.ExecWords.{RoutineLineTree, dots_of, formals_of, indirected, Level, Closing, leaves, restores, deeper, within_indirection, has_dots}
use Rattle.mexec.proofs.ExecWords.{commands_of, commands_in, Context, Go_on, texts, context, commands, lines_reached, lines_from, lines_next, lines_called}
use Rattle.mexec.proofs.ExecWords.{line_entered, line_reached, after_level, closed, View, Rests, Lists, Levels, frame, assoc, Ghosts, fault_of, Code}
use Rattle.mexec.proofs.ExecWords.{Evaluates, Parts, Does, DoesAt, here_of, Runs, reached, next_reached, line_then, entering, reaching, level_deeper, so_deep}
use Rattle.mexec.proofs.ExecWords.{at_next, text_position, on_body, next_item, Zsyntax, Depth, Yields, read_so, in_language, unless, is_none, routine_line_in}
use Rattle.mexec.proofs.ExecWords.{standing_of}
use Rattle.std.specs.Prelude.{nat_lt, ◌==◌}
use Rattle.mmeaning.specs.LineMeaning.{Position, Completion}
use Rattle.mspec.specs.Code as spec
use Rattle.moperator.specs.declared.code.Code.TheVariants.{M11}
use Rattle.mcommand.proofs.Spoken.{at_in}
use Rattle.mmeaning.proofs.Yieldings.{yielded, yielded_so}
use Rattle.meval.specs.declared.eval.Eval.{Eval}
use Rattle.mexec.specs.declared.completion.Completion as completions
use Rattle.mexec.specs.declared.completion.Completion.TheVariants as completion
use Rattle.mcommand.proofs.Calls.{keeps_itself}
use Rattle.mexec.proofs.Calls.{at_then, at_stopped, at_gives, runs_then, runs_spent, runs_stopped, runs_as, frame_below, frame_top}
use Rattle.mexec.proofs.Calls.{runs_completion, further_entered}
use Rattle.mmeaning.specs.Levels.{wants}
use Rattle.mexec.specs.Entering.{one_level_deeper}
use Rattle.mexec.specs.Frames.{RunsFurther, RunsWithin}

-- ---- lists

-- a line and those after it
behind : (n : ℕ) (xs : List Text) (x : Text) (rest : List Text) → drop n xs ≡ x ∷ rest → drop (n + 1) xs ≡ rest
behind n xs x rest e = sym (drop-drop 1 n xs) ∙ ap (drop 1) e

there : (n : ℕ) (xs : List Text) (x : Text) (rest : List Text) → drop n xs ≡ x ∷ rest → get_or xs n [] ≡ x
there n xs x rest e = let same : n + 0 ≡ n = omega arith in ap (λ k. get_or xs k []) (sym same) ∙ sym (get_or-drop n xs 0 []) ∙ ap (λ (ys : List Text). get_or ys 0 []) e

-- ---- the line that comes next

-- what follows, once it is known which line is entered
abbrev pub then_reached : Context → Option ℕ → Act Completion
then_reached x None = give Go_on
then_reached x (Some n) = charge >> line_reached x n (get_or x.position.level.copy n [])

module _ (x : Context) where
  reached_is : (n : ℕ) (lines : List Text) → drop n x.position.level.copy ≡ lines
      → ◌≡◌ {A = Act Completion} (lines_reached x n lines) (reached x.position.level.dots n lines >>= then_reached x)
  reached_is n [] e = refl
  reached_is n (text ∷ rest) e =
      λ i s. go (nat_lt x.position.level.dots (dots_of s.given.language text)) (dots_of s.given.language text == x.position.level.dots) (reached_is (n + 1) rest (behind n x.position.level.copy text rest e)) i s
    where
      go : (more same : Bool) → ◌≡◌ {A = Act Completion} (lines_reached x (n + 1) rest) (reached x.position.level.dots (n + 1) rest >>= then_reached x)
          → ◌≡◌ {A = Act Completion} (cond more (charge >> lines_reached x (n + 1) rest) (cond same (charge >> line_reached x n text) (give Go_on)))
          (cond more (charge >> reached x.position.level.dots (n + 1) rest) (give (cond same (Some n) None)) >>= then_reached x)
      go true same then_is =
          ap (λ (q : Act Completion). charge >> q) then_is
          ∙ sym (assoc charge (λ _. reached x.position.level.dots (n + 1) rest) (then_reached x))
      go false true then_is = ap (λ (t : Text). charge >> line_reached x n t) (sym (there n x.position.level.copy text rest e))
      go false false then_is = refl

  next_is : (next : Option ℕ) → ◌≡◌ {A = Act Completion} (lines_from x next) (next_reached x.position.level.dots x.position.level.copy next >>= then_reached x)
  next_is None = refl
  next_is (Some n) = reached_is n (drop n x.position.level.copy) refl

-- the same, with how the level closes
abbrev pub then_closed : Context → Closing → Option ℕ → Act Completion
then_closed x c None = closed c Go_on
then_closed x c (Some n) = reaching x c n (get_or x.position.level.copy n [])

module _ (a : Text) (n : ℕ) (p : Position) (c : Closing) where
  entered_is : (found : Option ℕ) → ◌≡◌ {A = Act Completion} (then_reached (context a n p) found >>= closed c) (then_closed (context a n p) c found)
  entered_is None = refl
  entered_is (Some k) = assoc charge (λ _. line_reached (context a n p) k (get_or p.level.copy k [])) (closed c)

  pub lines_are : ◌≡◌ {A = Act Completion} (frame a n (Levels p c) Go_on) (next_reached p.level.dots p.level.copy p.level.next >>= then_closed (context a n p) c)
  lines_are =
      ap (λ (q : Act Completion). q >>= closed c) (next_is (context a n p) p.level.next)
      ∙ assoc (next_reached p.level.dots p.level.copy p.level.next) (then_reached (context a n p)) (closed c)
      ∙ (λ i. next_reached p.level.dots p.level.copy p.level.next >>= (λ found. entered_is found i))

-- ---- a line that DO leads to

-- one that stands
stands_as : (l dots n : ℕ) (lines : List Text) → has_dots l dots (slice_get lines n) ≡ true
    → (n < length lines) × (drop n lines ≡ get_or lines n [] ∷ drop (n + 1) lines) × (slice_get lines n ≡ Some (get_or lines n []))
stands_as l dots n [] e = absurd cc
stands_as l dots zero (x ∷ lines) e = (omega arith, refl, refl)
stands_as l dots (suc n) (x ∷ lines) e =
    let more = stands_as l dots n lines e in
    let less = more.0 in
    let one : suc n + 1 ≡ suc (n + 1) = omega arith in
    (omega (arith, less), more.1 ∙ ap (λ k. get_or lines n [] ∷ drop k (x ∷ lines)) (sym one), more.2)

pub is_within : (l dots n : ℕ) (lines : List Text) → has_dots l dots (slice_get lines n) ≡ true → n < length lines
is_within l dots n lines e = let all = stands_as l dots n lines e in all.0

pub target_entered : (a : Text) (n : ℕ) (p : Position) (c : Closing) (l dots k : ℕ) → p.level.next ≡ Some k → has_dots l dots (slice_get p.level.copy k) ≡ true
    → ◌≡◌ {A = Act Completion} (lines_called (context a n p) >>= closed c) (entering (context a n p) c k (get_or p.level.copy k []))
target_entered a n p c l dots k next stands =
    let all = stands_as l dots k p.level.copy stands in
    let text = get_or p.level.copy k [] in
    rw (next, all.1) (assoc charge (λ _. line_entered (context a n p) k text) (closed c))

-- whether a line has a formal list
pub listed : {A : Type 0} (o : Option A) → true ≡ is_some o → is_none o ≡ false
listed None e = absurd cc
listed (Some x) e = refl

pub unlisted : {A : Type 0} (o : Option A) → false ≡ is_some o → is_none o ≡ true
unlisted None e = refl
unlisted (Some x) e = absurd cc

-- ---- a line after its step

module _ (p : Position) (c : Closing) (k : ℕ) (text : Text) where
  abbrev step_spent : Text → ℕ → Act Completion
  step_spent a n = line_then (context a n p) c k text

  -- one that no DO names has no formal list
  abbrev without_list : Act (Unit {0})
  without_list = in_language (λ l. unless spec.M11 (is_none (formals_of l text)))

  reach_is : (a : Text) (n : ℕ) → ◌≡◌ {A = Act Completion} (line_reached (context a n p) k text >>= closed c) (without_list >> step_spent a n)
  reach_is a n = assoc without_list (λ _. line_entered (context a n p) k text) (closed c)

  abbrev line_read : Text → ℕ → RoutineLineTree → Act Completion
  line_read a n l = (context a n p).texts.enter (at_next p (k + 1)) (commands_in l.body) >>= closed c

  read_is : (a : Text) (n : ℕ) → ◌≡◌ {A = Act Completion} (step_spent a n) (read_so Zsyntax (λ l. routine_line_in l text) >>= line_read a n)
  read_is a n = assoc (read_so Zsyntax (λ l. routine_line_in l text)) (λ l. (context a n p).texts.enter (at_next p (k + 1)) (commands_in l.body)) (closed c)

-- ---- calls

module _ {S : Type 0} {g : Ghosts S} where
  -- a call that needs no point
  pub at_yielded : {A X : Type 0} {p : Act A} {f : X → A} {parts : Parts S} {r : Result X Code} → Yields fault_of p f r → DoesAt g (λ a n. p) f parts r parts
  at_yielded {parts = parts} y = record {
    at = λ sure. yielded (here_of g parts) y;
    doubt = Doubts-same _;
    keeps = keeps_itself _;
  }

  -- a call that reads a text in the language of the line
  pub at_read : {A X : Type 0} (c : spec.Code) (read : ℕ → Option A) {f : X → A} {parts : Parts S} {r : Result X Code}
      → Yields fault_of (give_some c (read (standing_of parts.eval).given.language)) f r → DoesAt g (λ a n. read_so c read) f parts r parts
  at_read c read {parts = parts} y = record {
    at = λ sure. yielded_so c read (here_of g parts) y;
    doubt = Doubts-same _;
    keeps = keeps_itself _;
  }

  pub at_any : {A X : Type 0} {p : Act A} {f : X → A} {old new : Parts S} {r : Result X Code} → Does g (λ i. p) f old r new → DoesAt g (λ a n. p) f old r new
  at_any k = record { at = λ sure. k.at sure; doubt = k.doubt; keeps = k.keeps }

  pub at_plain : {A X : Type 0} {p : Act A} {f : X → A} {old : Parts S} {e : Eval S} {r : Result X Code} → Evaluates g (λ i. p) f old.eval r e
      → DoesAt g (λ a n. p) f old r (record old { eval = e })
  at_plain {old = old} k = record { at = λ sure. k.at sure old.out.now.items old.locks.now; doubt = k.doubt; keeps = record { eval = k.keeps; locks = refl; out = refl } }

  -- the commands of a text that is entered stand on top of its level
  pub text_runs : {fs : List View} {parts : Parts S} (p : Position) (c : Closing) (cs : List CommandTree)
      → Runs g (λ a n. (texts a (suc n)).enter p cs >>= closed c) fs parts (Ok completion.GoOn) (Rests p cs ∷ Levels p c ∷ fs) parts
  text_runs p c cs =
      runs_as (λ a n. assoc (commands (context a n p) cs) (after_level (context a n p)) (closed c))
      (frame_below (Levels p c) (λ s n h. h) (frame_top (Rests p cs) (λ s n h. h)))

  pub body_runs : {fs : List View} {parts : Parts S} (p : Position) (c : Closing) (b : BodyTree)
      → Runs g (λ a n. (texts a (suc n)).enter p (commands_in b) >>= closed c) fs parts (Ok completion.GoOn) (on_body p c b fs) parts
  body_runs p c (short comment) = frame_below (Levels p c) (λ s n h. h) (runs_completion completion.GoOn)
  body_runs p c (spaced_out dots l) = text_runs p c (commands_of l)

  -- ---- lines that are passed over

  module _ (dots k : ℕ) (lines : List Text) (x : Text) (less : k < length lines) (is : x ≡ get_or lines k x) where
    -- in the language of the line
    from_line : {old new : Parts S} {r : Result (Option ℕ) Code}
        → DoesAt g (λ a n. cond (nat_lt dots (dots_of (standing_of old.eval).given.language x)) (charge >> reached dots (k + 1) (drop (k + 1) lines)) (give (cond (dots_of (standing_of old.eval).given.language x == dots) (Some k) None))) (λ (found : Option ℕ). found) old r new
        → DoesAt g (λ a n. reached dots k (drop k lines)) (λ (found : Option ℕ). found) old r new
    from_line d =
        rw (next_item lines k x less is)
        (at_in (λ l. cond (nat_lt dots (dots_of l x)) (charge >> reached dots (k + 1) (drop (k + 1) lines)) (give (cond (dots_of l x == dots) (Some k) None))) d)

    -- a line with more dots
    pub passes_line : {X : Type 0} {f : X → Unit {0}} {u : X} {old mid new : Parts S} {r : Result (Option ℕ) Code}
        → dots < dots_of (standing_of old.eval).given.language x → DoesAt g (λ a n. charge) f old (Ok u) mid
        → DoesAt g (λ a n. reached dots (k + 1) (drop (k + 1) lines)) (λ (found : Option ℕ). found) mid r new → DoesAt g (λ a n. reached dots k (drop k lines)) (λ (found : Option ℕ). found) old r new
    passes_line {old = old} more d then_does =
        from_line
        (rw (lt-ltb dots (dots_of (standing_of old.eval).given.language x) more) (at_then (λ a n _. reached dots (k + 1) (drop (k + 1) lines)) d then_does))

    pub passing_failed : {X : Type 0} {f : X → Unit {0}} {old new : Parts S} {e : Code} {r : Result (Option ℕ) Code}
        → dots < dots_of (standing_of old.eval).given.language x → DoesAt g (λ a n. charge) f old (Err e) new → IsErr r × IsErrAnd r (λ x. x ≡ e)
        → DoesAt g (λ a n. reached dots k (drop k lines)) (λ (found : Option ℕ). found) old r new
    passing_failed {old = old} more d h =
        from_line
        (rw (lt-ltb dots (dots_of (standing_of old.eval).given.language x) more) (at_stopped (λ a n _. reached dots (k + 1) (drop (k + 1) lines)) d h))

    -- one with as many or fewer
    pub stops_at : {parts : Parts S} → dots_of (standing_of parts.eval).given.language x ≤ dots
        → DoesAt g (λ a n. reached dots k (drop k lines)) (λ (found : Option ℕ). found) parts (Ok (cond (dots_of (standing_of parts.eval).given.language x == dots) (Some k) None)) parts
    stops_at {parts = parts} few =
        let dots_here = dots_of (standing_of parts.eval).given.language x in
        from_line (rw (le-ltb dots dots_here few) (at_gives (cond (dots_here == dots) (Some k) None) (λ found. found) (cond (dots_here == dots) (Some k) None) refl))

  -- ---- a line that is entered

  module _ (p : Position) (c : Closing) (k : ℕ) (text : Text) where
    -- after its step: it has no tree
    pub line_refused : {Y : Type 0} {view : Y → RoutineLineTree} {e : Code} {parts : Parts S} {fs fs' : List View} {r : Result completions.Completion Code}
        → Yields fault_of (give_some Zsyntax (routine_line_in (standing_of parts.eval).given.language text)) view (Err e) → IsErr r × IsErrAnd r (λ x. x ≡ e)
        → Runs g (λ a n. step_spent p c k text a (suc n)) fs parts r fs' parts
    line_refused y h =
        runs_as (λ a n. read_is p c k text a (suc n)) (runs_stopped (λ a n. line_read p c k text a (suc n)) (at_read Zsyntax (λ l. routine_line_in l text) y) h)

    pub line_runs : {Y : Type 0} {view : Y → RoutineLineTree} {l : Y} {parts : Parts S} {fs : List View}
        → Yields fault_of (give_some Zsyntax (routine_line_in (standing_of parts.eval).given.language text)) view (Ok l)
        → Runs g (λ a n. step_spent p c k text a (suc n)) fs parts (Ok completion.GoOn) (on_body (at_next p (k + 1)) c (view l).body fs) parts
    line_runs {view = view} {l = l} y =
        runs_as (λ a n. read_is p c k text a (suc n)) (runs_then (λ a n. line_read p c k text a (suc n)) (at_read Zsyntax (λ l. routine_line_in l text) y) (body_runs (at_next p (k + 1)) c (view l).body))

    -- its step is spent, and then it is read
    pub line_begins : {X : Type 0} {f : X → Unit {0}} {u : X} {fs fs' : List View} {old mid new : Parts S} {r : Result completions.Completion Code}
        → DoesAt g (λ a n. charge) f old (Ok u) mid → mid.eval.steps < old.eval.steps
        → Runs g (λ a n. step_spent p c k text a (suc n)) fs mid r fs' new → Runs g (λ a n. entering (context a n p) c k text) fs old r fs' new
    line_begins d less runs = runs_spent (λ a n _. step_spent p c k text a n) d less runs

    -- one that no DO names: it has a formal list, or none
    pub line_listed : {X : Type 0} {f : X → Unit {0}} {u : X} {fs fs' : List View} {old mid : Parts S} → DoesAt g (λ a n. charge) f old (Ok u) mid
        → is_none (formals_of (standing_of mid.eval).given.language text) ≡ false
        → Runs g (λ a n. reaching (context a n p) c k text) fs old (Err M11) fs' mid
    line_listed {mid = mid} d has =
        let refused : DoesAt g (λ a n. without_list p c k text) (λ (u : Unit {0}). u) mid (Err M11) mid =
        at_in (λ l. unless spec.M11 (is_none (formals_of l text))) (rw has (at_yielded (record { ends = λ s. refl }))) in
        runs_then (λ a n _. line_reached (context a n p) k text >>= closed c) d
        (runs_as (λ a n. reach_is p c k text a n)
        (runs_stopped (λ a n _. step_spent p c k text a n) refused (refl, refl)))

    pub line_unlisted : {X : Type 0} {f : X → Unit {0}} {u : X} {fs fs' : List View} {old mid new : Parts S} {r : Result completions.Completion Code}
        → DoesAt g (λ a n. charge) f old (Ok u) mid → mid.eval.steps < old.eval.steps
        → is_none (formals_of (standing_of mid.eval).given.language text) ≡ true → Runs g (λ a n. step_spent p c k text a (suc n)) fs mid r fs' new → Runs g (λ a n. reaching (context a n p) c k text) fs old r fs' new
    line_unlisted {mid = mid} d less none runs =
        let passed : DoesAt g (λ a n. without_list p c k text) (λ (u : Unit {0}). u) mid (Ok tt) mid =
        at_in (λ l. unless spec.M11 (is_none (formals_of l text))) (rw none (at_gives tt (λ (u : Unit {0}). u) tt refl)) in
        runs_spent (λ a n _. line_reached (context a n p) k text >>= closed c) d less
        (runs_as (λ a n. reach_is p c k text a (suc n))
        (runs_then (λ a n _. step_spent p c k text a (suc n)) passed runs))

  -- ---- levels that are opened

  module _ (p : Position) (d : Depth) (is : d ≡ level_deeper p.depth) {fs fs' : List View} {old new : Parts S} {r : Result completions.Completion Code} where
    -- the lines of a block
    pub lines_opened_as : (l m : Level) → m ≡ l → (b : Bool)
        → Runs g (λ a n. frame a n (Levels (record { depth = d; level = m }) (restores b)) Go_on) fs old r fs' new
        → Runs g (λ a n. lines_next (context a n (deeper (restores b) p l)) >>= closed (restores b)) fs old r fs' new
    lines_opened_as l m same b k =
        let at : Position → Type 0 = λ q. Runs g (λ a n. frame a n (Levels q (restores b)) Go_on) fs old r fs' new in
        subst at (λ i. record { depth = is i; level = same i }) k

  -- the lines that a DO or a function names
  pub lines_opened : (p : Position) (d : Depth) (c : Closing) → d ≡ one_level_deeper (wants c) p.depth
      → (l : Level) {fs fs' : List View} {old new : Parts S} {r : Result completions.Completion Code}
      → Runs g (λ a n. lines_called (context a n (record { depth = d; level = l })) >>= closed c) fs old r fs' new → Runs g (λ a n. lines_called (context a n (deeper c p l)) >>= closed c) fs old r fs' new
  lines_opened p d c is l {fs = fs} {fs' = fs'} {old = old} {new = new} {r = r} k =
      subst (λ (d : Depth). Runs g (λ a n. lines_called (context a n (record { depth = d; level = l })) >>= closed c) fs old r fs' new) is k

  pub text_opened : (p : Position) (d : Depth) → d ≡ level_deeper p.depth → {fs : List View} {parts : Parts S} (cs : List CommandTree)
      → Runs g (λ a n. (texts a (suc n)).enter (deeper leaves p (text_position d p).level) cs >>= closed leaves) fs parts (Ok completion.GoOn) (Rests (text_position d p) cs ∷ Levels (text_position d p) leaves ∷ fs) parts
  text_opened p d is {fs = fs} {parts = parts} cs =
      let there = deeper leaves p (text_position d p).level in
      subst (λ (d : Depth). Runs g (λ a n. (texts a (suc n)).enter there cs >>= closed leaves) fs parts (Ok completion.GoOn) (Rests (text_position d p) cs ∷ Levels (text_position d p) leaves ∷ fs) parts) (sym is)
      (text_runs there leaves cs)

  list_on_top : {fs : List View} {parts : Parts S} (p : Position) (args : List ArgTree)
      → RunsWithin g (λ a n. (texts a (suc n)).list p args) fs parts (Ok completion.GoOn) (Lists p args ∷ fs) parts
  list_on_top p args = frame_top (Lists p args) (λ s n h. h)

  -- arguments that a text gives stand on top, one text deeper
  pub list_entered : (p : Position) (d : Depth) → d ≡ indirected p.depth → {fs : List View} {parts : Parts S} (args : List ArgTree)
      → RunsFurther g (λ a n. (texts a n).list (within_indirection p) args) fs parts (Ok completion.GoOn) (Lists (so_deep d p) args ∷ fs) parts
  list_entered p d is {fs = fs} {parts = parts} args =
      subst (λ (d : Depth). RunsFurther g (λ a n. (texts a n).list (within_indirection p) args) fs parts (Ok completion.GoOn) (Lists (so_deep d p) args ∷ fs) parts) (sym is)
      (further_entered (list_on_top (within_indirection p) args))
