-- What stops a session, by the bytes that came.
use Rattle.std.proofs.Common.{◌≡◌, ◌∙◌, ℕ, List, ◌++◌, Option, ap, subst, append_assoc}
use Rattle.std.specs.Io.KnownBytes.{Consumes}
use Rattle.dory_io.specs.Bytes.{BytesRead}
use Rattle.dory_io.proofs.Coming.{more_came, over_before}
use Rattle.dory_session.specs.declared.end.How.{How}
use Rattle.dory_session.specs.declared.end.How.TheVariants.{Ended, Cut, Length, Kind, Body, Trailing, InputFault, OutputFault, Limit, NoMemory}
use Rattle.dory_session.specs.Ends.{Stops}

-- what stops a session by the bytes left then stops it by those before
pub stops_before : (how : How) (rest bytes : List ℕ) (a b c : Option (List ℕ)) → Consumes a b bytes → Stops how rest b c → Stops how rest a c
stops_before Ended rest bytes a b c p s = (s.0, over_before a b c bytes p s.1)
stops_before (Cut held) rest bytes a b c p s = (s.0, s.1, s.2, over_before a b c bytes p s.3)
stops_before (Length n) rest bytes a b c p s = s
stops_before (Kind b') rest bytes a b c p s = s
stops_before (Body at) rest bytes a b c p s = s
stops_before (Trailing at) rest bytes a b c p s = s
stops_before InputFault rest bytes a b c p s = s
stops_before OutputFault rest bytes a b c p s = s
stops_before Limit rest bytes a b c p s = s
stops_before NoMemory rest bytes a b c p s = tt

-- what stops the session after more came stops it by all that came
pub stopped_since : (how : How) (held came mid more : List ℕ) (a b c : Option (List ℕ)) (m n k : ℕ) → BytesRead a b m n came → mid ≡ held ++ came → BytesRead b c n k more → Stops how (mid ++ more) b c → (all : List ℕ) × BytesRead a c m k all × Stops how (held ++ all) a c
stopped_since how held came mid more a b c m n k first grown second stops =
    let same : mid ++ more ≡ held ++ (came ++ more) = ap (λ l. l ++ more) grown ∙ append_assoc held came more in
    (came ++ more, more_came a b c m n k came more first second, stops_before how (held ++ (came ++ more)) came a b c first.first (subst (λ (l : List ℕ). Stops how l b c) same stops))
