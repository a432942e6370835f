-- How far a run has come, round by round.
use Rattle.std.proofs.Common.{◌≡◌, ℕ, ◌+◌, ◌≤◌, List, [], ◌∷◌, ◌++◌, length, drop, ap, ◌∙◌, refl, sym, subst, arith, add-one, append_assoc, append-nil}
use Rattle.std.specs.Prelude.{Option, Some, None, slice_get}
use Rattle.dory_run.specs.declared.event.Event.{Event}
use Rattle.dory_run.specs.declared.event.Honest.{Honest}
use Rattle.dory_run.specs.declared.line.WorldLine.{WorldLine}
use Rattle.dory_run.specs.declared.setup.Setup.{Setup}
use Rattle.dory_run.specs.Happening.{Happened, happens}
use Rattle.dory_run.specs.Kept.{IsPutRight}
use Rattle.dory_run.specs.Run.{Moment, Telling, beginning, moment_after, run_of, tells_by, telling_from, telling_of, with_line}
use Rattle.dory_run.specs.Start.{IsSetup, start}
use Rattle.dory_run.specs.World.{Message, Asked, Replied, World}
use Rattle.dory_run.proofs.Every.{Holds, run_holds}
use Rattle.dory_run.proofs.Lists.{all_get, all_map}
use Rattle.dory_world.specs.Plays.{ComesTo, HasPlayed, IsInFolder, IsOfFolder, IsWorld, Shown}
use Rattle.dory_world.proofs.Runs.{first_is, next_is}
use Rattle.dory_world.proofs.Sets.{drop_at}

-- lines, and then what is told
abbrev pub with_lines : List WorldLine → Telling → Telling
with_lines lines t = record { lines = lines ++ t.lines; bad = t.bad; world = t.world }

-- So many events were played: the world is that of the moment then, the lines are told, and what is told of the whole run is
-- these lines and what is told from there on. There are at most as many messages as events.
pub record Underway (h : Honest) (s : Setup) (events : List Event) (i : ℕ) (lines : List WorldLine) (w : Shown) : Type 0 where
  pub moment : Moment
  pub now : slice_get (run_of h s events) i ≡ Some moment
  pub world : IsWorld s.folder.0 w moment.world
  pub told : telling_of h s events ≡ with_lines lines (telling_from i h s moment.world (drop i events))
  pub few : length moment.world.messages ≤ i

module _ (h : Honest) (s : Setup) (events : List Event) where
  pub begins : (w : Shown) → IsWorld s.folder.0 w (start s) → Underway h s events 0 [] w
  begins w is = record {
    moment = beginning s;
    now = first_is h s events;
    world = is;
    told = refl;
    few = omega arith;
  }

  -- after an event that was allowed
  pub goes_on : (i : ℕ) (lines : List WorldLine) (w now : Shown) (e : Event) (line : WorldLine) (u : Underway h s events i lines w) → slice_get events i ≡ Some e
      → (o : Option Happened) → happens h s u.moment.world e ≡ o → ComesTo s.folder.0 o u.moment.world (Some line) now
      → Underway h s events (i + 1) (lines ++ line ∷ []) now
  goes_on i lines w now e line u at None is c = absurd c
  goes_on i lines w now e line u at (Some t) is c =
      let x = u.moment in
      let rest : Telling = telling_from (i + 1) h s t.world (drop (i + 1) events) in
      let from_here : telling_from i h s x.world (drop i events) ≡ with_line t.line rest =
      ap (telling_from i h s x.world) (drop_at events i e at) ∙ ap (tells_by i x.world (λ (v : World). telling_from (i + 1) h s v (drop (i + 1) events))) is in
      let joined : with_lines lines (with_line t.line rest) ≡ with_lines (lines ++ t.line ∷ []) rest =
      ap (λ (ls : List WorldLine). record { lines = ls; bad = rest.bad; world = rest.world }) (sym (append_assoc lines (t.line ∷ []) rest.lines)) in
      record {
        moment = moment_after x e t;
        now = rw add-one (next_is h s events (beginning s) i x e t u.now at is);
        world = c.world;
        told = u.told ∙ ap (with_lines lines) from_here ∙ joined ∙ ap (λ (l : WorldLine). with_lines (lines ++ l ∷ []) rest) (sym c.line);
        few = omega (arith, c.few, u.few);
      }

  -- at an event that isn't allowed
  pub stops : (i : ℕ) (lines : List WorldLine) (w now : Shown) (e : Event) (u : Underway h s events i lines w) → slice_get events i ≡ Some e
      → (o : Option Happened) → happens h s u.moment.world e ≡ o → ComesTo s.folder.0 o u.moment.world None now
      → HasPlayed h s events lines (Some i) now
  stops i lines w now e u at (Some t) is c = absurd c
  stops i lines w now e u at None is c =
      let x = u.moment in
      let end : Telling = record { lines = []; bad = Some i; world = x.world } in
      let from_here : telling_from i h s x.world (drop i events) ≡ end =
      ap (telling_from i h s x.world) (drop_at events i e at) ∙ ap (tells_by i x.world (λ (v : World). telling_from (i + 1) h s v (drop (i + 1) events))) is in
      let told : telling_of h s events ≡ with_lines lines end = u.told ∙ ap (with_lines lines) from_here in
      record {
        lines = sym (ap (λ (t : Telling). t.lines) told ∙ append-nil lines);
        bad = sym (ap (λ (t : Telling). t.bad) told);
        world = subst (λ (v : World). IsWorld s.folder.0 now v) (sym (ap (λ (t : Telling). t.world) told)) c;
      }

  -- at the end
  pub ends : (i : ℕ) (lines : List WorldLine) (w : Shown) → Underway h s events i lines w → drop i events ≡ [] → HasPlayed h s events lines None w
  ends i lines w u none =
      let x = u.moment in
      let end : Telling = record { lines = []; bad = None; world = x.world } in
      let told : telling_of h s events ≡ with_lines lines end = u.told ∙ ap (λ (es : List Event). with_lines lines (telling_from i h s x.world es)) none in
      record {
        lines = sym (ap (λ (t : Telling). t.lines) told ∙ append-nil lines);
        bad = sym (ap (λ (t : Telling). t.bad) told);
        world = subst (λ (v : World). IsWorld s.folder.0 w v) (sym (ap (λ (t : Telling). t.world) told)) u.world;
      }

  -- each ask is of the world's folder
  in_folder : (x : Moment) (m : Message) → IsPutRight s x.made m → IsInFolder s.folder m
  in_folder x (Asked side request) p = p.folder
  in_folder x (Replied side m frame) p = tt

  pub of_folder : IsSetup s → (i : ℕ) (x : Moment) → slice_get (run_of h s events) i ≡ Some x → IsOfFolder s x.world
  of_folder is i x at =
      let a : Holds h s x = all_get (Holds h s) (run_of h s events) i x at (run_holds s is h events) in
      all_map (IsPutRight s x.made) (IsInFolder s.folder) x.world.messages (in_folder x) a.good.messages
