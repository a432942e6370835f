-- What a whole command asks, where nothing is refused and nothing is repaired.
use Rattle.std.specs.Prelude.{ℕ, List, [], ◌∷◌}
use Rattle.dory_base.specs.declared.ids.Side.{Side}
use Rattle.dory_base.specs.declared.ids.Side.TheVariants.{Lead, Follow}
use Rattle.dory_base.specs.declared.entry.Entry.{Entry}
use Rattle.dory_query.specs.declared.query.Query.{Query}
use Rattle.dory_wire.specs.declared.message.Want.{Want}
use Rattle.dory_wire.specs.declared.message.Want.TheVariants as want
use Rattle.dory_state.specs.declared.kept.KeptState.{KeptState}
use Rattle.dory_member.specs.declared.phase.Phase.{Phase}
use Rattle.dory_member.specs.declared.phase.Run.{Run}
use Rattle.dory_member.specs.Course.{Put, name}

-- a run at its first step
abbrev pub start : KeptState → List ℕ → ℕ → Phase → Run
start k seed serial phase = record { kept = k; seed = seed; serial = serial; step = 0; phase = phase }

-- what a run puts to a domain at a step
abbrev pub put : Run → ℕ → Side → Want → Put
put run step side want = (side, record { ask = name run step; folder = run.kept.folder; want = want })

-- an update: it is staged at the follower and at the lead, ordered at the lead, and followed at the number that the lead gave
abbrev pub update_asks : Run → Entry → ℕ → List Put
update_asks run e number =
    put run 0 Follow (want.Stage e) ∷ put run 1 Lead (want.Stage e) ∷ put run 2 Lead (want.Order e.id) ∷ put run 3 Follow (want.Follow number e.id) ∷ []

-- a search: both lengths, and then the keys of party 0 at the lead and those of party 1 at the follower
abbrev pub search_asks : Run → Query → List Put
search_asks run q =
    put run 0 Lead want.Latest ∷ put run 1 Follow want.Latest ∷ put run 2 Lead (want.Search q.version q.shape q.lead_keys)
    ∷ put run 3 Follow (want.Search q.version q.shape q.follow_keys) ∷ []
