-- Ids in the order of their numbers, and how they are kept.
use Rattle.std.specs.Prelude.{ℕ, ◌≡◌, ◌+◌, ◌≤◌, ◌<◌, true, List, length, Vec, vec_len, vec_capacity}
use Rattle.std.specs.declared.alloc.Global.{Global}
use Rattle.dory_base.specs.declared.ids.UpdateId.{UpdateId}
use Rattle.dory_base.specs.Log.{last_of}
use Rattle.dory_base.specs.Step.{rises}
use Rattle.dory_log.specs.declared.own.Own.{Own}
use Rattle.dory_log.specs.Own.{own_from, own_at, HasRoom}

-- the ids, and how many more there is room for
pub record Numbered : Type 0 where
  pub ids : List UpdateId
  pub spare : ℕ

-- each member's serials rise, its own list has what it has among the ids, and each list has room for the spare
pub record IsNumbered (ids : Vec UpdateId Global) (own : List (Vec Own Global)) (spare : ℕ) : Type 0 where
  pub few : length ids.items ≤ 1048576
  pub rising : (member : ℕ) → rises 0 ids.items member ≡ true
  pub mine : (member : ℕ) → own_at own member ≡ own_from 1 ids.items member
  pub lists : length own ≡ 64
  pub room : vec_len ids + spare ≤ vec_capacity ids
  pub rooms : HasRoom own spare

-- an id may come next: there is room, and it is above its member's last
pub record MayJoin (n : Numbered) (number : ℕ) (id : UpdateId) : Type 0 where
  pub member : id.member.0 ≤ 63
  pub above : last_of n.ids id.member.0 < id.serial
  pub next : number ≡ length n.ids + 1
  pub few : number ≤ 1048576
  pub spare : 1 ≤ n.spare
