-- What is pending is written part by part.
use Rattle.std.proofs.Common.{◌≡◌, ℕ, Bool, List, [], ◌∷◌, ◌++◌, Option, Some, None, sym, ap, ◌∙◌, append_assoc, append-nil}
use Rattle.dory_state.specs.declared.kept.Pending.{Pending}
use Rattle.dory_fields.specs.Bytes.{eight, four}
use Rattle.dory_fields.specs.Packing.{packed}
use Rattle.dory_state.specs.Spelling.{cells, kind, pending}

-- a kind, a serial and a document, and a row
in_parts : (out serial doc row : List ℕ) (k : ℕ) → ((out ++ k ∷ []) ++ (serial ++ doc)) ++ row ≡ out ++ k ∷ (serial ++ (doc ++ row))
in_parts out serial doc row k = simp append_assoc

pub post_written : (out kinded named whole : List ℕ) (o : Option Pending) (p : Pending) (row : List Bool) → o ≡ Some p → p.row ≡ Some row → kinded ≡ out ++ 1 ∷ [] → named ≡ kinded ++ (eight p.serial ++ four p.doc.0) → whole ≡ named ++ packed row
    → whole ≡ out ++ pending o
post_written out kinded named whole o p row is posts first second third =
    let parts : whole ≡ out ++ 1 ∷ (eight p.serial ++ (four p.doc.0 ++ packed row)) = third ∙ ap (λ (x : List ℕ). x ++ packed row) (second ∙ ap (λ (x : List ℕ). x ++ (eight p.serial ++ four p.doc.0)) first) ∙ in_parts out (eight p.serial) (four p.doc.0) (packed row) 1 in
    let spelled : pending o ≡ 1 ∷ (eight p.serial ++ (four p.doc.0 ++ packed row)) = ap pending is ∙ ap (λ (r : Option (List Bool)). kind r ∷ (eight p.serial ++ (four p.doc.0 ++ cells r))) posts in
    parts ∙ ap (λ (x : List ℕ). out ++ x) (sym spelled)

without_row : (out serial doc : List ℕ) (k : ℕ) → (out ++ k ∷ []) ++ (serial ++ doc) ≡ out ++ k ∷ (serial ++ (doc ++ []))
without_row out serial doc k = append_assoc out (k ∷ []) (serial ++ doc) ∙ ap (λ (x : List ℕ). out ++ k ∷ (serial ++ x)) (sym (append-nil doc))

pub removal_written : (out kinded whole : List ℕ) (o : Option Pending) (p : Pending) → o ≡ Some p → p.row ≡ None → kinded ≡ out ++ 2 ∷ [] → whole ≡ kinded ++ (eight p.serial ++ four p.doc.0) → whole ≡ out ++ pending o
removal_written out kinded whole o p is removes first second =
    let parts : whole ≡ out ++ 2 ∷ (eight p.serial ++ (four p.doc.0 ++ [])) = second ∙ ap (λ (x : List ℕ). x ++ (eight p.serial ++ four p.doc.0)) first ∙ without_row out (eight p.serial) (four p.doc.0) 2 in
    let spelled : pending o ≡ 2 ∷ (eight p.serial ++ (four p.doc.0 ++ [])) = ap pending is ∙ ap (λ (r : Option (List Bool)). kind r ∷ (eight p.serial ++ (four p.doc.0 ++ cells r))) removes in
    parts ∙ ap (λ (x : List ℕ). out ++ x) (sym spelled)
