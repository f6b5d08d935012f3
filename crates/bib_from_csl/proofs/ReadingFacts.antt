-- Items and members, one after another.
use Rattle.std.proofs.Common.{◌≡◌, ◌+◌, ℕ, Bool, true, false, cond, List, [], ◌∷◌, ◌++◌, Option, Some, None, refl, sym, ap, ◌∙◌, append_assoc}
use Rattle.json.specs.Json.{Json}
use Rattle.bib_from_csl.specs.declared.given.Given.{Given}
use Rattle.bib_from_csl.specs.declared.given.GivenItem.{GivenItem}
use Rattle.bib_from_csl.specs.declared.reading.Fault.{Fault}
use Rattle.bib_from_csl.specs.declared.reading.ItemReading.TheVariants.{Says, Unfit}
use Rattle.bib_from_csl.specs.declared.reading.ItemsReading.{ItemsReading}
use Rattle.bib_from_csl.specs.declared.reading.ItemsReading.TheVariants.{Are, Refused}
use Rattle.bib_from_csl.specs.GivenItems.{before_fields, before_items, before_parts, is_head, item_in, items_read_from, joined_from, member_of, members_read, next_part}
use Rattle.bib_from_csl.specs.Objects.{text_in}

-- members after others; `None` if one of them has a wrong form
abbrev pub after_fields : List Given → Option (List Given) → Option (List Given)
after_fields before None = None
after_fields before (Some fields) = Some (before ++ fields)

pub after_none : (fields : Option (List Given)) → after_fields [] fields ≡ fields
after_none None = refl
after_none (Some fields) = refl

-- the first of the members is added to those before it
pub after_one : (before : List Given) (field : Given) (rest : Option (List Given))
    → after_fields before (before_fields (Some field) rest) ≡ after_fields (before ++ field ∷ []) rest
after_one before field None = refl
after_one before field (Some fields) = ap Some (sym (append_assoc before (field ∷ []) fields))

-- a member for which `is_head` holds is skipped; the next lemmas state that any other member is added, or that the result is `None` if it
-- has a wrong form
pub head_passed : (keeps : Bool) (id : List ℕ) (before : List Given) (m : List ℕ × Json) (ms : List (List ℕ × Json))
    → is_head id m.0 m.1 ≡ true
    → after_fields before (members_read keeps id (m ∷ ms)) ≡ after_fields before (members_read keeps id ms)
head_passed keeps id before m ms head =
    ap
    (λ b. after_fields before (cond b (members_read keeps id ms) (before_fields (member_of keeps m.0 m.1) (members_read keeps id ms))))
    head

pub member_passed : (keeps : Bool) (id : List ℕ) (before : List Given) (m : List ℕ × Json) (ms : List (List ℕ × Json)) (field : Given)
    → is_head id m.0 m.1 ≡ false → member_of keeps m.0 m.1 ≡ Some field
    → after_fields before (members_read keeps id (m ∷ ms)) ≡ after_fields (before ++ field ∷ []) (members_read keeps id ms)
member_passed keeps id before m ms field head is =
    ap
    (λ b. after_fields before (cond b (members_read keeps id ms) (before_fields (member_of keeps m.0 m.1) (members_read keeps id ms))))
    head
    ∙ ap (λ r. after_fields before (before_fields r (members_read keeps id ms))) is ∙ after_one before field (members_read keeps id ms)

pub member_unfit : (keeps : Bool) (id : List ℕ) (before : List Given) (m : List ℕ × Json) (ms : List (List ℕ × Json))
    → is_head id m.0 m.1 ≡ false → member_of keeps m.0 m.1 ≡ None → after_fields before (members_read keeps id (m ∷ ms)) ≡ None
member_unfit keeps id before m ms head is =
    ap
    (λ b. after_fields before (cond b (members_read keeps id ms) (before_fields (member_of keeps m.0 m.1) (members_read keeps id ms))))
    head
    ∙ ap (λ r. after_fields before (before_fields r (members_read keeps id ms))) is

-- the texts of elements after others; `None` if one of them is neither a text nor a number
abbrev pub after_parts : List ℕ → Option (List ℕ) → Option (List ℕ)
after_parts before None = None
after_parts before (Some rest) = Some (before ++ rest)

pub after_no_parts : (rest : Option (List ℕ)) → after_parts [] rest ≡ rest
after_no_parts None = refl
after_no_parts (Some rest) = refl

-- the first of the texts is added to those before it
pub after_part : (before : List ℕ) (first : Bool) (text : List ℕ) (rest : Option (List ℕ))
    → after_parts before (before_parts first (Some text) rest) ≡ after_parts (before ++ next_part first text) rest
after_part before first text None = refl
after_part before first text (Some rest) = ap Some (sym (append_assoc before (next_part first text) rest))

-- an element that is a text or a number is added; another one makes the result `None`
pub part_passed : (before : List ℕ) (first : Bool) (j : Json) (js : List Json) (text : List ℕ) → text_in j ≡ Some text
    → after_parts before (joined_from first (j ∷ js)) ≡ after_parts (before ++ next_part first text) (joined_from false js)
part_passed before first j js text is =
    ap (λ t. after_parts before (before_parts first t (joined_from false js))) is ∙ after_part before first text (joined_from false js)

pub part_unfit : (before : List ℕ) (first : Bool) (j : Json) (js : List Json) → text_in j ≡ None
    → after_parts before (joined_from first (j ∷ js)) ≡ None
part_unfit before first j js is = ap (λ t. after_parts before (before_parts first t (joined_from false js))) is

-- items after others
abbrev pub after_items : List GivenItem → ItemsReading → ItemsReading
after_items before (Are items) = Are (before ++ items)
after_items before (Refused index fault) = Refused index fault

pub after_no_items : (reading : ItemsReading) → after_items [] reading ≡ reading
after_no_items (Are items) = refl
after_no_items (Refused index fault) = refl

pub after_one_item : (before : List GivenItem) (index : ℕ) (item : GivenItem) (rest : ItemsReading)
    → after_items before (before_items index (Says item) rest) ≡ after_items (before ++ item ∷ []) rest
after_one_item before index item (Are items) = ap Are (sym (append_assoc before (item ∷ []) items))
after_one_item before index item (Refused other fault) = refl

pub item_passed : (before : List GivenItem) (index : ℕ) (j : Json) (js : List Json) (item : GivenItem) → item_in j ≡ Says item
    → after_items before (items_read_from index (j ∷ js)) ≡ after_items (before ++ item ∷ []) (items_read_from (index + 1) js)
item_passed before index j js item is =
    ap (λ r. after_items before (before_items index r (items_read_from (index + 1) js))) is
    ∙ after_one_item before index item (items_read_from (index + 1) js)

pub item_unfit : (before : List GivenItem) (index : ℕ) (j : Json) (js : List Json) (fault : Fault) → item_in j ≡ Unfit fault
    → after_items before (items_read_from index (j ∷ js)) ≡ Refused index fault
item_unfit before index j js fault is = ap (λ r. after_items before (before_items index r (items_read_from (index + 1) js))) is
