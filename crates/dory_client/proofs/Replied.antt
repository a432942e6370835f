-- What comes from a link that tells the folder of a state.
use Rattle.std.proofs.Common.{◌≡◌, ℕ, ◌≤◌, List, length, take, Option, Some, None, ap, refl, ◌∙◌, subst, arith, length-append}
use Rattle.std.specs.Prelude.{⊤}
use Rattle.std.proofs.lemmas.List.{take-append-le}
use Rattle.dory_base.specs.declared.entry.Entry.{Entry}
use Rattle.dory_base.specs.History.{IsPrefix, version_of}
use Rattle.dory_wire.specs.declared.message.Want.{Want}
use Rattle.dory_wire.specs.declared.message.Want.TheVariants.{Latest, Search}
use Rattle.dory_wire.specs.declared.message.What.{What}
use Rattle.dory_wire.specs.declared.message.Request.{Request}
use Rattle.dory_wire.specs.Reading.{reply_in}
use Rattle.dory_link.specs.Told.{Told, IsReadAt, IsReplyTo, IsFolderReply, GrownFrom, Grown, Grows}
use Rattle.dory_drive.specs.Asked.{HasReply}
use Rattle.dory_client.specs.Complete.{TellsFolder}

-- a frame answers a request between these two tellings of the folder
pub record IsReplied (before now : Told) (request : Request) (frame : List ℕ) : Type 0 where
  pub what : What
  pub replied : reply_in frame ≡ Some (record { ask = request.ask; what = what })
  pub answers : IsReplyTo before now request.want what

-- a frame answers a request by one of the histories between these two
pub record IsReadBy (before now : Told) (request : Request) (frame : List ℕ) : Type 0 where
  pub what : What
  pub history : List Entry
  pub replied : reply_in frame ≡ Some (record { ask = request.ask; what = what })
  pub at : IsReadAt before now request.want what history

pub longer : (a b : List Entry) → IsPrefix a b → length a ≤ length b
longer a b (more, is) = omega (arith, ap length is, length-append a more)

-- a version that a history has stays as it is in a longer one
pub same_version : (a b : List Entry) (number : ℕ) → number ≤ length a → IsPrefix a b → version_of number b ≡ version_of number a
same_version a b number few (more, is) = ap (take number) is ∙ take-append-le number a more few

grown_folder : (a b : Option Told) (x : Told) → a ≡ Some x → Grown a b → (y : Told) × (b ≡ Some y) × GrownFrom x y
grown_folder None b x e g = absurd (cc)
grown_folder (Some w) None x e g = absurd g
grown_folder (Some w) (Some y) x e g = let same : w ≡ x = cc in (y, refl, subst (λ (t : Told). GrownFrom t y) same g)

-- a folder that is told stays told, grown
pub grown_told : (before now : Option (ℕ → Option Told)) (number : ℕ) (x : Told) → TellsFolder before number x → Grows before now → (y : Told) × TellsFolder now number y × GrownFrom x y
grown_told None now number x told g = absurd told
grown_told (Some before) None number x told g = absurd g
grown_told (Some before) (Some now) number x told g = grown_folder (before number) (now number) x told (g number)

-- the request reads
abbrev pub IsReading : Want → Type 0
IsReading Latest = ⊤
IsReading (Search number asked keys) = ⊤
IsReading _ = ⊥

read_at : (x y : Told) (want : Want) (what : What) → IsReading want → IsReplyTo x y want what → (h : List Entry) × IsReadAt x y want what h
read_at x y Latest what reads a = a
read_at x y (Search number asked keys) what reads a = a
read_at x y _ what reads a = absurd reads

by_folder : (before now : Option Told) (x y : Told) (request : Request) (what : What) (frame : List ℕ) → before ≡ Some x → now ≡ Some y → reply_in frame ≡ Some (record { ask = request.ask; what = what }) → IsFolderReply before now request.want what → IsReplied x y request frame
by_folder before now x y request what frame e i replied answer = record {
  what = what;
  replied = replied;
  answers = subst (λ (o : Option Told). IsFolderReply o (Some y) request.want what) e (subst (λ (o : Option Told). IsFolderReply before o request.want what) i answer);
}

-- what came over a link that tells the folder
pub replied_by : (before now : Option (ℕ → Option Told)) (x y : Told) (request : Request) (frame : List ℕ) → TellsFolder before request.folder.0 x → TellsFolder now request.folder.0 y → HasReply before now request frame → IsReplied x y request frame
replied_by None now x y request frame told told' replies = absurd told
replied_by (Some before) None x y request frame told told' replies = absurd replies
replied_by (Some before) (Some now) x y request frame told told' (what, replied, by) =
    by_folder (before request.folder.0) (now request.folder.0) x y request what frame told told' replied by

-- what came to a request that reads
pub read_by : (before now : Option (ℕ → Option Told)) (x y : Told) (request : Request) (frame : List ℕ) → IsReading request.want → TellsFolder before request.folder.0 x → TellsFolder now request.folder.0 y → HasReply before now request frame → IsReadBy x y request frame
read_by before now x y request frame reads told told' replies =
    let r = replied_by before now x y request frame told told' replies in
    let at = read_at x y request.want r.what reads r.answers in
    record { what = r.what; history = at.0; replied = r.replied; at = at.1 }
