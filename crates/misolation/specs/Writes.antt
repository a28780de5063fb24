-- SPDX-License-Identifier: Apache-2.0
-- What is written: the globals' part of operations.
use Rattle.std.specs.Prelude.{List, [], ◌∷◌, if◌then◌else◌}
use Rattle.std.specs.List.{flat_map}
use Rattle.std.specs.FinMap.{insert}
use Rattle.mspec.specs.Node.{Text, Node}
use Rattle.mspec.specs.Globals.{Globals, without_subtree}
use Rattle.mspec.specs.Access.{Settings}
use Rattle.mspec.specs.Plan.{Op, May, Value, Status, Neighbour, Following, Routine, Put, Kill, Take, Give_back, Release}
use Rattle.mmeaning.specs.Shared.{may_write}
use Rattle.misolation.specs.PlanLaws.{Exchange}

-- a text put at a node, or a node and all below it killed
pub data GlobalWrite : Type 0 where
  Puts : Node → Text → GlobalWrite
  Kills : Node → GlobalWrite

-- what globals are after it
abbrev pub written_by : GlobalWrite → Globals → Globals
written_by (Puts n t) globals = insert globals n t
written_by (Kills n) globals = without_subtree globals n

-- and after some, one after another
abbrev pub written : List GlobalWrite → Globals → Globals
written [] globals = globals
written (x ∷ xs) globals = written xs (written_by x globals)

-- what an operation writes: one that the account may not do writes nothing
abbrev pub write_of : Settings → (me : Text) → Op → List GlobalWrite
write_of settings me (May owner name mode) = []
write_of settings me (Value n) = []
write_of settings me (Status n) = []
write_of settings me (Neighbour direction n) = []
write_of settings me (Following direction n) = []
write_of settings me (Routine owner name) = []
write_of settings me (Put n t) = if may_write settings me n then Puts n t ∷ [] else []
write_of settings me (Kill n) = if may_write settings me n then Kills n ∷ [] else []
write_of settings me (Take names) = []
write_of settings me (Give_back n) = []
write_of settings me Release = []

abbrev pub writes : Settings → (me : Text) → List Exchange → List GlobalWrite
writes settings me es = flat_map (λ e. write_of settings me e.op) es
