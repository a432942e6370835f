-- What a version remembers of each slot without looking into its entry.
use Rattle.std.specs.Prelude.{ℕ, ◌≡◌, ◌==◌, Bool, false, length, Option, Some, None, is_none, slice_index}
use Rattle.dory_base.specs.declared.ids.DocId.{DocId}
use Rattle.dory_base.specs.declared.entry.Entry.{Entry}
use Rattle.dory_base.specs.Sum.{tags_of}
use Rattle.dory_base.specs.Table.{has_doc}
use Rattle.dory_chunks.specs.declared.marks.Mark.{Mark}

-- the document and the update in a slot
abbrev pub mark_of : Option Entry → Option Mark
mark_of None = None
mark_of (Some e) = Some (record { doc = e.doc; id = e.id })

-- the slot is marked with this document
abbrev pub is_marked : DocId → Option Mark → Bool
is_marked doc None = false
is_marked doc (Some m) = m.doc.0 == doc.0

-- the mark is of this document, or there is none where none is named
abbrev pub is_mark_of : Option DocId → Option Mark → Bool
is_mark_of None = is_none
is_mark_of (Some doc) = is_marked doc

-- the slot has a post of this document, or is empty where none is named
abbrev pub is_slot_of : Option DocId → Option Entry → Bool
is_slot_of None = is_none
is_slot_of (Some doc) = has_doc doc

-- the tag of a slot in a column, which is zero where the slot is empty
abbrev pub tag_at : Option Entry → ℕ → ℕ
tag_at None column = 0
tag_at (Some e) column = slice_index (tags_of e.change) column

-- the slot is empty, or has this many tags
abbrev pub HasTags : ℕ → Option Entry → Type 0
HasTags count None = Unit {0}
HasTags count (Some e) = length (tags_of e.change) ≡ count
