-- The members of objects in the order of their names, and the tokens by which they are written.
use Rattle.std.proofs.Common.{◌≡◌, ◌==◌, ℕ, ℤ, pos, negsuc, Bool, true, false, if◌then◌else◌, List, [], ◌∷◌, ◌++◌, Option, Some, None, Result, Ok, Err, OnOk, Ordering, Less, Equal, Greater, length, map, codes, refl, sym, ap, ◌∙◌, append_assoc}
use denote.Ref.{Bor}
use Rattle.std.specs.BTreeMap.{insert_entry}
use Rattle.std.specs.Cmp.Lexicographic.{slice_cmp}
use Rattle.std.specs.Fmt.{signed_decimal}
use Rattle.std.specs.List.{flat_map}
use Rattle.std.specs.Ordering.{match_ordering, nat_cmp}
use Rattle.json.specs.Token.{Token, begin_object, end_object, begin_array, end_array, key, number}
use Rattle.json.specs.Token as token
use Rattle.json.specs.Tree.{items_tokens, members_tokens}
use Rattle.serde_json.specs.Data.{Data, string, array, object, Members, no_members, put}
use Rattle.serde_json.specs.Find.{of_integer}
use Rattle.serde_json.specs.View.{items_of}
use Rattle.serde_json.specs.Written.{items_outline, members_outline, number_text}
use Rattle.bib_csl.specs.declared.item.DateParts.{DateParts}
use Rattle.bib_csl.specs.declared.item.ItemDate.{ItemDate}
use Rattle.bib_csl.specs.declared.item.Name.{Name}
use Rattle.bib_csl.specs.declared.item.Name.TheVariants.{Literal, Parts}
use Rattle.bib_csl.specs.declared.item.Season.{Season}
use Rattle.bib_csl.specs.declared.members.Held.{Held}
use Rattle.bib_csl.specs.Json.{with_string, parts_members, name_members, name_json, month_items, date_parts_json, with_parts, with_season, with_circa, with_literal, date_members}
use Rattle.bib_csl.specs.Tokens.{tokens_of, held_json, members_held, member_tokens, text_tokens, parts_tokens, name_tokens, month_tokens, circa_tokens, dates_tokens, literal_tokens, season_tokens, date_tokens}

-- the tokens of an array are those of its elements in turn, between brackets
pub array_tokens : {T : Type 0} (element : T → Data) (xs : List T)
    → begin_array ∷ (flat_map (λ x. tokens_of (element x)) xs ++ end_array ∷ [])
    ≡ tokens_of (array (items_of (map element xs)))
array_tokens element xs = ap (λ ts. begin_array ∷ ts) (each element xs) where
  each : {T : Type 0} (element : T → Data) (xs : List T)
      → flat_map (λ x. tokens_of (element x)) xs ++ end_array ∷ []
      ≡ items_tokens (items_outline (items_of (map element xs)))
  each element [] = refl
  each element (x ∷ xs) = append_assoc (tokens_of (element x)) _ _ ∙ ap (λ ts. tokens_of (element x) ++ ts) (each element xs)

-- the tokens of an object after its opening brace are those of its members in turn, and the closing brace
each_member : (ms : List (Bor (List ℕ) × Held))
    → flat_map (λ m. member_tokens m.0.now m.1) ms ++ end_object ∷ []
    ≡ members_tokens (members_outline (members_held ms))
each_member [] = refl
each_member (m ∷ ms) =
    ap (λ ts. key m.0.now ∷ ts)
    (append_assoc (tokens_of (held_json m.1)) _ _ ∙ ap (λ ts. tokens_of (held_json m.1) ++ ts) (each_member ms))

pub object_tokens : (ms : List (Bor (List ℕ) × Held))
    → begin_object ∷ (flat_map (λ m. member_tokens m.0.now m.1) ms ++ end_object ∷ [])
    ≡ tokens_of (object (members_held ms))
object_tokens ms = ap (λ ts. begin_object ∷ ts) (each_member ms)

-- the order of borrowed names, by their bytes
abbrev by_name : Bor (List ℕ) → Bor (List ℕ) → Ordering
by_name a b = slice_cmp nat_cmp a.now b.now

held_one : (o : Ordering) (a b c : List (Bor (List ℕ) × Held))
    → members_held (match_ordering o a b c) ≡ match_ordering o (members_held a) (members_held b) (members_held c)
held_one Less a b c = refl
held_one Equal a b c = refl
held_one Greater a b c = refl

pub held_put : (ms : List (Bor (List ℕ) × Held)) (name : Bor (List ℕ)) (held : Held)
    → members_held (insert_entry by_name ms name held) ≡ put name.now (held_json held) (members_held ms)
held_put [] name held = refl
held_put (m ∷ ms) name held = held_one (by_name name m.0) _ _ _ ∙ rw (held_put ms name held)

-- the tokens of a member with a text, unless the flag says that the text is missing
abbrev chosen_tokens : Bool → List ℕ → List ℕ → List Token
chosen_tokens none name text = if none then [] else key name ∷ token.string text ∷ []

abbrev chosen_put : Bool → List ℕ → Data → Members → Members
chosen_put none name d members = if none then members else put name d members

-- the tokens of the parts that a name has are in the order of the members' names
parts_ordered : (no_d no_f no_g no_n no_s : Bool) (d f g n s : List ℕ)
    → begin_object ∷ ((chosen_tokens no_d (codes "dropping-particle") d ++ (chosen_tokens no_f (codes "family") f
    ++ (chosen_tokens no_g (codes "given") g
    ++ (chosen_tokens no_n (codes "non-dropping-particle") n ++ chosen_tokens no_s (codes "suffix") s)))) ++ end_object ∷ [])
    ≡ tokens_of (object (chosen_put no_n (codes "non-dropping-particle") (string n) (chosen_put no_d (codes "dropping-particle") (string d)
    (chosen_put no_s (codes "suffix") (string s)
    (chosen_put no_g (codes "given") (string g) (chosen_put no_f (codes "family") (string f) no_members))))))
parts_ordered true true true true true d f g n s = refl
parts_ordered true true true true false d f g n s = refl
parts_ordered true true true false true d f g n s = refl
parts_ordered true true true false false d f g n s = refl
parts_ordered true true false true true d f g n s = refl
parts_ordered true true false true false d f g n s = refl
parts_ordered true true false false true d f g n s = refl
parts_ordered true true false false false d f g n s = refl
parts_ordered true false true true true d f g n s = refl
parts_ordered true false true true false d f g n s = refl
parts_ordered true false true false true d f g n s = refl
parts_ordered true false true false false d f g n s = refl
parts_ordered true false false true true d f g n s = refl
parts_ordered true false false true false d f g n s = refl
parts_ordered true false false false true d f g n s = refl
parts_ordered true false false false false d f g n s = refl
parts_ordered false true true true true d f g n s = refl
parts_ordered false true true true false d f g n s = refl
parts_ordered false true true false true d f g n s = refl
parts_ordered false true true false false d f g n s = refl
parts_ordered false true false true true d f g n s = refl
parts_ordered false true false true false d f g n s = refl
parts_ordered false true false false true d f g n s = refl
parts_ordered false true false false false d f g n s = refl
parts_ordered false false true true true d f g n s = refl
parts_ordered false false true true false d f g n s = refl
parts_ordered false false true false true d f g n s = refl
parts_ordered false false true false false d f g n s = refl
parts_ordered false false false true true d f g n s = refl
parts_ordered false false false true false d f g n s = refl
parts_ordered false false false false true d f g n s = refl
parts_ordered false false false false false d f g n s = refl

pub name_ordered : (n : Name) → begin_object ∷ (name_tokens n ++ end_object ∷ []) ≡ tokens_of (name_json n)
unfolding name_tokens parts_tokens text_tokens name_json name_members parts_members with_string
name_ordered (Literal text) = refl
name_ordered (Parts p) =
    parts_ordered (length p.dropping_particle == 0) (length p.family == 0) (length p.given == 0)
    (length p.non_dropping_particle == 0) (length p.suffix == 0)
    p.dropping_particle p.family p.given p.non_dropping_particle p.suffix

-- the JSON text of an integer is its decimal text with its sign
integer_text : (z : ℤ) → number_text (of_integer z) ≡ signed_decimal z
integer_text (pos n) = refl
integer_text (negsuc n) = refl

days : (y : List ℕ) (m d : Option ℕ)
    → begin_array ∷ number y ∷ (month_tokens m d ++ end_array ∷ [])
    ≡ begin_array ∷ number y ∷ items_tokens (items_outline (month_items m d))
days y None d = refl
days y (Some m) None = refl
days y (Some m) (Some d) = refl

pub date_parts_ordered : (p : DateParts)
    → begin_array ∷ number (signed_decimal p.year) ∷ (month_tokens p.month p.day ++ end_array ∷ [])
    ≡ tokens_of (date_parts_json p)
unfolding date_parts_json
date_parts_ordered p =
    days (signed_decimal p.year) p.month p.day
    ∙ ap (λ y. begin_array ∷ number y ∷ items_tokens (items_outline (month_items p.month p.day)))
    (sym (integer_text p.year))

-- the tokens of the members that a date has are in the order of the members' names
chosen_ordered : (circa no_parts : Bool) (dates : Data) (literal : Option (List ℕ)) (season : Option Season)
    → begin_object
    ∷
    ((circa_tokens circa
    ++
    ((if no_parts then [] else key (codes "date-parts") ∷ tokens_of dates)
    ++ (literal_tokens literal ++ season_tokens season))) ++ end_object ∷ [])
    ≡ tokens_of
    (object
    (with_literal literal
    (with_circa circa (with_season season (chosen_put no_parts (codes "date-parts") dates no_members)))))
unfolding with_literal with_circa with_season
chosen_ordered true true dates None None = refl
chosen_ordered true true dates None (Some s) = refl
chosen_ordered true true dates (Some l) None = refl
chosen_ordered true true dates (Some l) (Some s) = refl
chosen_ordered true false dates None None =
    ap (λ ts. begin_object ∷ key (codes "circa") ∷ token.boolean true ∷ key (codes "date-parts") ∷ ts)
    (append_assoc (tokens_of dates) _ _)
chosen_ordered true false dates None (Some s) =
    ap (λ ts. begin_object ∷ key (codes "circa") ∷ token.boolean true ∷ key (codes "date-parts") ∷ ts)
    (append_assoc (tokens_of dates) _ _)
chosen_ordered true false dates (Some l) None =
    ap (λ ts. begin_object ∷ key (codes "circa") ∷ token.boolean true ∷ key (codes "date-parts") ∷ ts)
    (append_assoc (tokens_of dates) _ _)
chosen_ordered true false dates (Some l) (Some s) =
    ap (λ ts. begin_object ∷ key (codes "circa") ∷ token.boolean true ∷ key (codes "date-parts") ∷ ts)
    (append_assoc (tokens_of dates) _ _)
chosen_ordered false true dates None None = refl
chosen_ordered false true dates None (Some s) = refl
chosen_ordered false true dates (Some l) None = refl
chosen_ordered false true dates (Some l) (Some s) = refl
chosen_ordered false false dates None None = ap (λ ts. begin_object ∷ key (codes "date-parts") ∷ ts) (append_assoc (tokens_of dates) _ _)
chosen_ordered false false dates None (Some s) =
    ap (λ ts. begin_object ∷ key (codes "date-parts") ∷ ts) (append_assoc (tokens_of dates) _ _)
chosen_ordered false false dates (Some l) None =
    ap (λ ts. begin_object ∷ key (codes "date-parts") ∷ ts) (append_assoc (tokens_of dates) _ _)
chosen_ordered false false dates (Some l) (Some s) =
    ap (λ ts. begin_object ∷ key (codes "date-parts") ∷ ts) (append_assoc (tokens_of dates) _ _)

pub date_ordered : (d : ItemDate) → begin_object ∷ (date_tokens d ++ end_object ∷ []) ≡ tokens_of (object (date_members d))
unfolding date_tokens dates_tokens date_members with_parts
date_ordered d = chosen_ordered d.circa (length d.parts == 0) (array (items_of (map date_parts_json d.parts))) d.literal d.season

-- an opening bracket, the tokens inside and a closing bracket, appended in turn, are appended as a whole
pub framed : {T E : Type 0} (r : Result T E) (open_ close_ : Token) (old opened inside last inner whole : List Token)
    → opened ≡ old ++ open_ ∷ [] → inside ≡ opened ++ inner → OnOk r (last ≡ inside ++ close_ ∷ [])
    → open_ ∷ (inner ++ close_ ∷ []) ≡ whole → OnOk r (last ≡ old ++ whole)
framed (Ok t) open_ close_ old opened inside last inner whole begins goes ends is =
    ends ∙ ap (λ l. l ++ close_ ∷ []) (goes ∙ ap (λ l. l ++ inner) begins)
    ∙ append_assoc (old ++ open_ ∷ []) inner (close_ ∷ []) ∙ append_assoc old (open_ ∷ []) (inner ++ close_ ∷ [])
    ∙ ap (λ l. old ++ l) is
framed (Err e) open_ close_ old opened inside last inner whole begins goes ends is = ends
