-- What is asked where another holds the keys or the entry, and the request that it makes.
use Rattle.dory_base.specs.declared.ids.AskId.{AskId}
use Rattle.dory_base.specs.declared.ids.FolderId.{FolderId}
use Rattle.dory_wire.specs.declared.message.Want.{Want}
use Rattle.dory_wire.specs.declared.message.Want.TheVariants as wants
use Rattle.dory_wire.specs.declared.message.WantRef.{WantRef}
use Rattle.dory_wire.specs.declared.message.WantRef.TheVariants.{Latest, Search, Which, Stage, Order, Follow}
use Rattle.dory_wire.specs.declared.message.Request.{Request}

-- what is asked, with the keys or the entry that are lent
abbrev pub want_of : WantRef → Want
want_of Latest = wants.Latest
want_of (Search version shape keys) = wants.Search version shape keys.now
want_of (Which number) = wants.Which number
want_of (Stage entry) = wants.Stage entry.now
want_of (Order id) = wants.Order id
want_of (Follow number id) = wants.Follow number id

-- the request that asks it of a folder
abbrev pub request_by : AskId → FolderId → WantRef → Request
request_by ask folder want = record { ask = ask; folder = folder; want = want_of want }
