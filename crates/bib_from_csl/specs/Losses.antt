-- Meaning: words of public contracts.
-- The members of an item that its entry lacks or changes.
use Rattle.std.specs.Prelude.{ℕ, Bool, false, not, ◌==◌, ◌||◌, if◌then◌else◌, List, [], ◌∷◌, ◌++◌, length, codes, bytes_eq, Option, Some, None}
use Rattle.std.specs.List.{flat_map}
use Rattle.bib_entry.specs.declared.entry.Entry.{Entry}
use Rattle.bib_csl.specs.declared.item.Content.{Content}
use Rattle.bib_csl.specs.contracts.item.ContentPartialEq.TheImpl as content
use Rattle.bib_csl.specs.declared.item.Field.{Field}
use Rattle.bib_csl.specs.declared.item.Item.{Item}
use Rattle.bib_csl.specs.Items.{item_of_entry}
use Rattle.bib_csl.specs.Tables.{item_type_name, variable_name}
use Rattle.bib_from_csl.specs.declared.given.Given.{Given}
use Rattle.bib_from_csl.specs.declared.given.GivenItem.{GivenItem}
use Rattle.bib_from_csl.specs.declared.losses.Loss.{Loss}
use Rattle.bib_from_csl.specs.declared.losses.LossKind.{LossKind}
use Rattle.bib_from_csl.specs.declared.losses.LossKind.TheVariants.{NoField, Changed, Partly}
use Rattle.bib_from_csl.specs.declared.writing.Work.{Work}
use Rattle.bib_from_csl.specs.FromItems.{is_empty_content, work_for_item}
use Rattle.bib_from_csl.specs.Variables.{variable_field}

-- the content of the variable with a name
abbrev pub content_of : List ℕ → List Field → Option Content
content_of name [] = None
content_of name (field ∷ fields) = if bytes_eq (variable_name field.variable) name then Some field.content else content_of name fields

-- whether the entry of an item with these properties has a field for the variable with a name
abbrev pub is_fielded : Work → List ℕ → Bool
is_fielded work name = bytes_eq name (codes "language") || not (length (variable_field work.kind work.in_work name) == 0)

-- whether there is a content, and it is the same as the other one
abbrev pub is_this : Option Content → Content → Bool
is_this None given = false
is_this (Some found) given = content.ghosts.eq found given

-- whether the variable with a name has this content
abbrev pub holds_content : List Field → List ℕ → Content → Bool
holds_content fields name given = is_this (content_of name fields) given

-- the loss of a member whose content is in a field: `Partly` if a part of the value is missing from the content
abbrev pub partly_unless : Bool → Option LossKind
partly_unless is_whole = if is_whole then None else Some Partly

-- the loss of a member without a content: `NoField`, unless the flag says that nothing is missing
abbrev pub no_field_unless : Bool → Option LossKind
no_field_unless is_whole = if is_whole then None else Some NoField

-- the loss of a member with a content
unfoldable pub content_loss : Work → List Field → List ℕ → Content → Bool → Option LossKind
content_loss work fields name given is_whole =
    if is_empty_content given then None
    else if not (is_fielded work name) then Some NoField
    else if not (holds_content fields name given) then Some Changed
    else partly_unless is_whole

-- the loss of a member, with or without a content
abbrev pub loss_of_content : Work → List Field → List ℕ → Option Content → Bool → Option LossKind
loss_of_content work fields name None is_whole = no_field_unless is_whole
loss_of_content work fields name (Some given) is_whole = content_loss work fields name given is_whole

-- the loss of a member; `fields` has the variables of the item that the entry is converted back to
abbrev pub loss_of : Work → List Field → Given → Option LossKind
loss_of work fields given = loss_of_content work fields given.name given.content given.is_whole

-- a loss, if there is one
abbrev pub loss : List ℕ → List ℕ → Option LossKind → List Loss
loss id name None = []
loss id name (Some kind) = record { id = id; name = name; kind = kind } ∷ []

-- the loss of a text that is parsed as `read`
abbrev pub text_loss : List ℕ → List ℕ → Option LossKind
text_loss given read = if bytes_eq given read then None else Some Changed

-- the losses of a member
abbrev pub member_loss : Work → List ℕ → List Field → Given → List Loss
member_loss work id fields given = loss id given.name (loss_of work fields given)

-- the losses of `item`; `read` is the item that its entry is converted back to
unfoldable pub item_losses : GivenItem → Item → List Loss
item_losses item read =
    loss item.id item.key_member (text_loss item.id read.id)
    ++ (loss item.id (codes "type") (text_loss item.kind (item_type_name read.kind))
    ++ flat_map (member_loss (work_for_item item) item.id read.fields) item.fields)

-- the losses of an item with this entry; without one, the only loss is `NoField` for the member that the key comes from
abbrev pub losses_in : GivenItem → Option Entry → List Loss
losses_in item None = loss item.id item.key_member (Some NoField)
losses_in item (Some entry) = item_losses item (item_of_entry entry)

-- the first of some entries
abbrev pub first_entry : List Entry → Option Entry
first_entry [] = None
first_entry (entry ∷ entries) = Some entry

-- the entries after the first
abbrev pub after_first_entry : List Entry → List Entry
after_first_entry [] = []
after_first_entry (entry ∷ entries) = entries

-- the losses of items; their entries are in the same order
abbrev pub all_losses : List GivenItem → List Entry → List Loss
all_losses [] entries = []
all_losses (item ∷ items) entries = losses_in item (first_entry entries) ++ all_losses items (after_first_entry entries)
