-- A history only grows, and goes on lawfully.
use Rattle.std.proofs.Common.{◌≡◌, ◌≤◌, ℕ, List, [], ◌∷◌, ◌++◌, length, take, refl, ap, sym, ◌∙◌, subst, arith, Option, Some, None}
use Rattle.std.specs.List.{fold}
use Rattle.std.proofs.lemmas.List.Sums.{fold-append}
use mathlib.Core.List.{IsPrefix}
use Rattle.dory_base.specs.declared.entry.Entry.{Entry}
use Rattle.dory_base.specs.declared.event.Event.{Event}
use Rattle.dory_base.specs.declared.event.Event.TheVariants.{Staged, Appended}
use Rattle.dory_base.specs.declared.ids.UpdateId.{UpdateId}
use Rattle.dory_base.specs.declared.ids.Side.TheVariants.{Lead}
use Rattle.dory_base.specs.Log.{staged_as}
use Rattle.dory_base.specs.Step.{State, empty_state, state_appended, after}
use Rattle.dory_base.specs.TableMeaning.{Kept, kept_of}
use Rattle.dory_shelf.specs.Versions.{newest_of, table_at}
use Rattle.dory_shelf.specs.Published.{Shelf, Published, folder_of, history_of, Makes, LawfulFrom, IsLawful, MayFollow, with_event, Grew}
use Rattle.dory_shelf.proofs.Prefixes.{prefix_self, prefix_trans, prefix_shorter, prefix_take}

-- ---- what was appended stays

appended_grows : (s : State) (id : UpdateId) (o : Option Entry) → IsPrefix s.history (state_appended s id o).history
appended_grows s id None = prefix_self s.history
appended_grows s id (Some e) = (e ∷ [], refl)

after_grows : (s : State) (e : Event) → IsPrefix s.history (after s e).history
after_grows s (Staged e) = prefix_self s.history
after_grows s (Appended id) = appended_grows s id (staged_as s.staged id)

history_grows : (s : State) (events : List Event) → IsPrefix s.history (fold after s events).history
history_grows s [] = prefix_self s.history
history_grows s (e ∷ es) = prefix_trans s.history (after s e).history (fold after (after s e) es).history (after_grows s e) (history_grows (after s e) es)

prefix_history : (shelf : Shelf) (xs ys : List Event) → IsPrefix xs ys → IsPrefix (history_of (record { shelf = shelf; events = xs })) (history_of (record { shelf = shelf; events = ys }))
prefix_history shelf xs ys p =
    let start : State = empty_state Lead shelf.shape shelf.retained in
    let all : fold after start ys ≡ fold after (fold after start xs) p.0 = ap (λ (es : List Event). fold after start es) (sym p.1) ∙ fold-append after start xs p.0 in
    subst (λ (s : State). IsPrefix (fold after start xs).history s.history) (sym all) (history_grows (fold after start xs) p.0)

-- of two histories of a shelf, the one with fewer updates has the first updates of the other
pub histories_compare : (shelf : Shelf) (xs ys both : List Event) → IsPrefix xs both → IsPrefix ys both →
    length (history_of (record { shelf = shelf; events = xs })) ≤ length (history_of (record { shelf = shelf; events = ys })) →
    history_of (record { shelf = shelf; events = xs }) ≡ take (length (history_of (record { shelf = shelf; events = xs }))) (history_of (record { shelf = shelf; events = ys }))
histories_compare shelf xs ys both p q le =
    prefix_take _ _ (prefix_shorter _ _ _ (prefix_history shelf xs both p) (prefix_history shelf ys both q) le)

-- ---- one operation more

-- the folder after one operation more
pub folder_snoc : (h : Published) (e : Event) → folder_of (with_event h e) ≡ after (folder_of h) e
folder_snoc h e = fold-append after (empty_state Lead h.shelf.shape h.shelf.retained) h.events (e ∷ [])

lawful_from_snoc : (s : State) (events : List Event) (e : Event) → LawfulFrom s events → Makes (fold after s events) e → LawfulFrom s (events ++ e ∷ [])
lawful_from_snoc s [] e lawful may = (may, tt)
lawful_from_snoc s (x ∷ xs) e lawful may = (lawful.0, lawful_from_snoc (after s x) xs e lawful.1 may)

pub lawful_snoc : (h : Published) (e : Event) → IsLawful h → MayFollow h e → IsLawful (with_event h e)
lawful_snoc h e lawful may = lawful_from_snoc _ h.events e lawful may

-- ---- later histories of a shelf

pub grew_self : (h : Published) → Grew h h
grew_self h = (refl, prefix_self h.events)

pub grew_trans : (x y z : Published) → Grew x y → Grew y z → Grew x z
grew_trans x y z p q = (q.0 ∙ p.0, prefix_trans x.events y.events z.events p.1 q.1)

pub grew_snoc : (h : Published) (e : Event) → Grew h (with_event h e)
grew_snoc h e = (refl, (e ∷ [], refl))

-- a table that stands for a history is that version of each longer history
pub stands_later : (front h : Published) (number : ℕ) (t : Kept) → h.shelf ≡ front.shelf → number ≡ newest_of front
    → (newest_of front ≤ newest_of h → history_of front ≡ take (newest_of front) (history_of h)) → number ≤ newest_of h
    → t ≡ kept_of front.shelf.shape (history_of front) → t ≡ table_at h number
stands_later front h number t same count begins within stands =
    let first : history_of front ≡ take (newest_of front) (history_of h) = begins (omega (arith, count, within)) in
    stands ∙ (ap (λ (es : List Entry). kept_of front.shelf.shape es) (first ∙ ap (λ (n : ℕ). take n (history_of h)) (sym count)) ∙ ap (λ (s : Shelf). kept_of s.shape (take number (history_of h))) (sym same))
