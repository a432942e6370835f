-- What an ask over a link says, where it was answered and where it wasn't.
use Rattle.std.proofs.Common.{◌≡◌, ℕ, ◌<◌, List, [], ◌∷◌, ◌++◌, Option, Some, None, Ok, Err, inl, inr, ap, sym, ◌∙◌, refl, get_or}
use Rattle.std.proofs.lemmas.List.{append-nil}
use Rattle.dory_wire.specs.declared.message.Request.{Request}
use Rattle.dory_wire.specs.Reading.{request_in}
use Rattle.dory_link.specs.declared.link.LinkError.TheVariants as link
use Rattle.dory_link.specs.Told.{Told, Talk, talk, Heard, Adds, IsReplyFrame, IsAsked}
use Rattle.dory_member.specs.Machine.{IsFrameOf}
use Rattle.dory_base.specs.declared.ids.Side.{Side}
use Rattle.dory_base.specs.declared.ids.Side.TheVariants.{Lead, Follow}
use Rattle.dory_drive.specs.declared.broken.Broken.{Broken}
use Rattle.dory_drive.specs.declared.broken.Broken.TheVariants.{LinkFault, NoMemory}
use Rattle.dory_drive.specs.Asked.{GrewBy, spoke, HasReply, Exchanged, Misses, Unanswered, request_frame, unspoken}
use Rattle.dory_drive.specs.Scene.{Scene, OnlyLink, heard_at}
use Rattle.dory_drive.specs.Way.{UnansweredOver, scene_links}

grew : (old new : Option (List Talk)) (sent frame : List ℕ) (request : Request) → sent ≡ request_frame request → Adds old new sent (Ok frame) → GrewBy old new (spoke request frame ∷ [])
grew None None sent frame request e added = tt
grew (Some old) (Some new) sent frame request e added = added ∙ ap (λ (s : List ℕ). old ++ talk s (Some frame) ∷ []) e
grew _ _ sent frame request e added = absurd added

replied : (old new : Option (ℕ → Option Told)) (sent frame : List ℕ) (request : Request) → request_in sent ≡ Some request → IsReplyFrame old new sent frame → HasReply old new request frame
replied None None sent frame request e answers = tt
replied (Some old) (Some new) sent frame request e answers = answers request e
replied _ _ sent frame request e answers = absurd answers

-- an ask by the frame of a request
pub made : (old new : Heard) (sent frame came : List ℕ) (request : Request) → IsFrameOf request sent → came ≡ frame → IsAsked old new sent (Ok frame) → ((i : ℕ) → get_or came i 0 < 256) → Exchanged old new request came
made old new sent frame came request is same asked are_bytes =
    let here : IsAsked old new sent (Ok came) = rw (sym same) at asked in
    record {
      grew = grew old.exchanges new.exchanges sent came request is.spelled here.added;
      replies = replied old.folders new.folders sent came request is.read here.answers;
      grown = here.grown;
      in_range = is.range;
      are_bytes = are_bytes;
    }

failed : (old new : Option (List Talk)) (sent : List ℕ) (request : Request) → sent ≡ request_frame request → Adds old new sent (Err link.Failed) → GrewBy old new (unspoken request ∷ [])
failed None None sent request is added = tt
failed (Some old) (Some new) sent request is added = added ∙ ap (λ (s : List ℕ). old ++ talk s None ∷ []) is
failed _ _ sent request is added = absurd added

-- an ask over a link that failed
pub no_frame : (old new : Heard) (sent : List ℕ) (request : Request) (side : Side) → IsFrameOf request sent → IsAsked old new sent (Err link.Failed) → Unanswered old new request (LinkFault side)
no_frame old new sent request side is asked =
    record { more = unspoken request ∷ []; misses = refl; grew = failed old.exchanges new.exchanges sent request is.spelled asked.added; grown = asked.grown }

unsent : (old new : Option (List Talk)) (sent : List ℕ) (request : Request) → sent ≡ request_frame request → Adds old new sent (Err link.NoMemory) → (more : List Talk) × Misses NoMemory request more × GrewBy old new more
unsent None None sent request is added = ([], inl refl, tt)
unsent (Some old) (Some new) sent request is (inl same) = ([], inl refl, same ∙ sym (append-nil old))
unsent (Some old) (Some new) sent request is (inr added) = (unspoken request ∷ [], inr refl, added ∙ ap (λ (s : List ℕ). old ++ talk s None ∷ []) is)
unsent _ _ sent request is added = absurd added

-- an ask for which memory ran out
pub no_room : (old new : Heard) (sent : List ℕ) (request : Request) → IsFrameOf request sent → IsAsked old new sent (Err link.NoMemory) → Unanswered old new request NoMemory
no_room old new sent request is asked =
    let u = unsent old.exchanges new.exchanges sent request is.spelled asked.added in
    record { more = u.0; misses = u.1; grew = u.2; grown = asked.grown }

-- ---- over both links

pub unanswered_over : (side : Side) (a z : Scene) (request : Request) (end : Broken) → OnlyLink side a z → Unanswered (heard_at side a) (heard_at side z) request end → UnansweredOver side (scene_links a) (scene_links z) request end
unanswered_over Lead a z request end only un = (un, ap (λ (s : Scene). s.follow) only)
unanswered_over Follow a z request end only un = (ap (λ (s : Scene). s.lead) only, un)
