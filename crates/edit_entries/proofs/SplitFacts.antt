-- A file that is cut around one of its entries, and an entry's fields that are cut around one of them.
use Rattle.std.proofs.Common.{◌≡◌, ◌⊎◌, inl, inr, ℕ, zero, suc, true, List, [], ◌∷◌, ◌++◌, length, refl, sym, ap, ◌∙◌, subst, Some}
use Rattle.std.specs.Prelude.{◌==◌, not, ◌&&◌, slice_get}
use Rattle.std.specs.Char.{is_whitespace}
use Rattle.bib_text.specs.Places.{Place, CharAt, Longest}
use Rattle.bib_text.proofs.PlaceFacts.{Ahead, ahead_here, ahead_then, ahead_char}
use Rattle.bib_syntax.specs.Characters.{is_key}
use Rattle.bib_syntax.specs.Reading.{Part, part, FieldReading, EntryReading, FileReading, empty_reading, then}
use Rattle.bib_syntax.specs.Kept.{entry_alone}
use Rattle.bib_syntax.specs.Grammar.{Field, LineComment, Gap, Fields, BlockKind, Head, Body, Block, File, block_kind, longest}
use Rattle.bib_syntax.specs.Grammar.{Fields as fields}
use Rattle.bib_syntax.specs.Grammar.{Body as body}
use Rattle.bib_syntax.specs.Grammar.{File as file}
use Rattle.bib_syntax.proofs.FieldFacts.{ahead_field, ahead_gap, ahead_fields}
use Rattle.bib_syntax.proofs.FileFacts.{ahead_block, ahead_line_comment, entry_found, then-then}

-- ---- an entry as a block, with all its parts

pub record EntryBlock (u : Place) (e : EntryReading) (v : Place) : Type 0 where
  pub inside : Place
  pub key_end : Place
  pub before_comma : Place
  pub after_comma : Place
  pub fields_start : Place
  pub brace : Place
  pub head : Head longest u e.kind inside
  pub is_entry : block_kind e.kind.text ≡ BlockKind.entry
  pub key : Longest is_key inside key_end
  pub white : Longest is_whitespace key_end before_comma
  pub comma : CharAt before_comma 44 after_comma
  pub gap : Gap longest after_comma fields_start
  pub fields : Fields longest fields_start e.fields brace
  pub closes : CharAt brace 125 v
  pub key_is : e.key ≡ part inside key_end
  pub starts : e.start ≡ u.at
  pub ends : e.end ≡ brace.at

first_or : EntryReading → List EntryReading → EntryReading
first_or e [] = e
first_or e (x ∷ xs) = x

entry_of_body : {start u v : Place} {kind : Part} {k : BlockKind} {says : FileReading} (e : EntryReading)
    → Head longest start kind u → block_kind kind.text ≡ k → Body longest start kind k u says v
    → says.entries ≡ e ∷ [] → EntryBlock start e v
unfolding first_or
entry_of_body e head is (body.comment brace chars closes) same = absurd (cc)
entry_of_body e head is (body.preamble quoted white closes is_brace) same = absurd (cc)
entry_of_body e head is (body.strings fs closes) same = absurd (cc)
entry_of_body {start} {u} {v} {kind} e head is
    (body.entry {x = after_comma} {y = fields_start} {z = brace} key_end key white comma gap list closes) same =
    subst (λ x. EntryBlock start x v) (ap (first_or e) same) (record {
      inside = u;
      key_end = key_end;
      before_comma = _;
      after_comma = after_comma;
      fields_start = fields_start;
      brace = brace;
      head = head;
      is_entry = is;
      key = key;
      white = white;
      comma = comma;
      gap = gap;
      fields = list;
      closes = closes;
      key_is = refl;
      starts = refl;
      ends = refl;
    })

pub entry_block : {u v : Place} {says : FileReading} (e : EntryReading) → Block longest u says v → says.entries ≡ e ∷ [] → EntryBlock u e v
entry_block e b same = entry_of_body e b.head refl b.body same

pub block_of : {u v : Place} {e : EntryReading} → EntryBlock u e v → Block longest u (entry_alone e) v
block_of {u} {v} {e} b = record {
  inside = b.inside;
  kind = e.kind;
  head = b.head;
  body = subst (λ k. Body longest u e.kind k b.inside (entry_alone e) v) (sym b.is_entry)
      (entry_found e.kind e.key e.start e.end (sym b.starts) b.ends b.key_is b.key b.white b.comma b.gap b.fields b.closes);
}

-- the reading of a block has no entry or is one entry
pub one_entry : {start u v : Place} {kind : Part} {k : BlockKind} {says : FileReading}
    → Body longest start kind k u says v → (says.entries ≡ []) ⊎ ((e : EntryReading) × (says ≡ entry_alone e))
one_entry (body.comment brace chars closes) = inl refl
one_entry (body.preamble quoted white closes is_brace) = inl refl
one_entry (body.strings fs closes) = inl refl
one_entry (body.entry key_end key white comma gap list closes) = inr (_, refl)

-- ---- fields, up to one of them and after it

pub data FieldsBefore : Place → List FieldReading → Place → Type 0 where
  none : {u : Place} → FieldsBefore u [] u
  more : {u v w x y z : Place} {f : FieldReading} {fs : List FieldReading} → Field longest u f v → Gap longest v w
      → CharAt w 44 x → Gap longest x y
      → FieldsBefore y fs z → FieldsBefore u (f ∷ fs) z

pub data FieldsAfter : Place → List FieldReading → Place → Type 0 where
  last : {u v : Place} → Gap longest u v → FieldsAfter u [] v
  more : {u v w x y : Place} {fs : List FieldReading} → Gap longest u v → CharAt v 44 w → Gap longest w x
      → Fields longest x fs y → FieldsAfter u fs y

pub record FieldSplit (u : Place) (fs : List FieldReading) (f : FieldReading) (j : ℕ) (v : Place) : Type 0 where
  pub start : Place
  pub end : Place
  pub before : List FieldReading
  pub following : List FieldReading
  pub first : FieldsBefore u before start
  pub field : Field longest start f end
  pub rest : FieldsAfter end following v
  pub whole : fs ≡ before ++ f ∷ following
  pub index : length before ≡ j

pub split_fields : {u v : Place} {fs : List FieldReading} (j : ℕ) (f : FieldReading) → Fields longest u fs v
    → slice_get fs j ≡ Some f → FieldSplit u fs f j v
split_fields j f (fields.none white) found = absurd (cc)
split_fields {u} {v} zero f (fields.last {v = end} {f = g} field gap) found =
    let same : g ≡ f = cc in
    record {
      start = u;
      end = end;
      before = [];
      following = [];
      first = FieldsBefore.none;
      field = subst (λ x. Field longest u x end) same field;
      rest = FieldsAfter.last gap;
      whole = ap (λ x. x ∷ []) same;
      index = refl;
    }
split_fields (suc j) f (fields.last field gap) found = absurd (cc)
split_fields {u} {v} zero f (fields.more {v = end} {f = g} {fs = fs} field gap comma gap' rest) found =
    let same : g ≡ f = cc in
    record {
      start = u;
      end = end;
      before = [];
      following = fs;
      first = FieldsBefore.none;
      field = subst (λ x. Field longest u x end) same field;
      rest = FieldsAfter.more gap comma gap' rest;
      whole = ap (λ x. x ∷ fs) same;
      index = refl;
    }
split_fields {u} {v} (suc j) f (fields.more {f = g} field gap comma gap' rest) found =
    let others = split_fields j f rest found in
    record {
      start = others.start;
      end = others.end;
      before = g ∷ others.before;
      following = others.following;
      first = FieldsBefore.more field gap comma gap' others.first;
      field = others.field;
      rest = others.rest;
      whole = ap (λ xs. g ∷ xs) others.whole;
      index = ap suc others.index;
    }

pub joined_fields : {u a b v : Place} {before following : List FieldReading} {f : FieldReading}
    → FieldsBefore u before a → Field longest a f b → FieldsAfter b following v
    → Fields longest u (before ++ f ∷ following) v
joined_fields FieldsBefore.none field (FieldsAfter.last gap) = fields.last field gap
joined_fields FieldsBefore.none field (FieldsAfter.more gap comma gap' rest) = fields.more field gap comma gap' rest
joined_fields (FieldsBefore.more field gap comma gap' others) here rest = fields.more field gap comma gap' (joined_fields others here rest)

pub ahead_fields_before : {u v : Place} {fs : List FieldReading} → FieldsBefore u fs v → Ahead u v
ahead_fields_before {u} FieldsBefore.none = ahead_here u
ahead_fields_before (FieldsBefore.more field gap comma gap' others) =
    ahead_then (ahead_field field)
    (ahead_then (ahead_gap gap)
    (ahead_then (ahead_char comma) (ahead_then (ahead_gap gap') (ahead_fields_before others))))

pub ahead_fields_after : {u v : Place} {fs : List FieldReading} → FieldsAfter u fs v → Ahead u v
ahead_fields_after (FieldsAfter.last gap) = ahead_gap gap
ahead_fields_after (FieldsAfter.more gap comma gap' rest) =
    ahead_then (ahead_gap gap) (ahead_then (ahead_char comma) (ahead_then (ahead_gap gap') (ahead_fields rest)))

-- ---- a file, up to one of its entries and after it

pub data FileBefore : Place → FileReading → Place → Type 0 where
  none : {u : Place} → FileBefore u empty_reading u
  skipped : {u v w : Place} {c : ℕ} {says : FileReading} → CharAt u c v → not (c == 64) && not (c == 37) ≡ true
      → FileBefore v says w → FileBefore u says w
  line_comment : {u v w : Place} {says : FileReading} → LineComment u v → FileBefore v says w → FileBefore u says w
  block : {u v w : Place} {first rest : FileReading} → Block longest u first v → FileBefore v rest w → FileBefore u (then first rest) w

pub record EntrySplit (u : Place) (says : FileReading) (e : EntryReading) (k : ℕ) : Type 0 where
  pub start : Place
  pub end : Place
  pub before : FileReading
  pub following : FileReading
  pub first : FileBefore u before start
  pub block : EntryBlock start e end
  pub rest : File longest end following
  pub whole : says ≡ then before (then (entry_alone e) following)
  pub index : length before.entries ≡ k

-- a block without entries before a split file only extends the part before the entry
after_none : {u v : Place} {first rest : FileReading} {e : EntryReading} {k : ℕ} → Block longest u first v
    → first.entries ≡ [] → EntrySplit v rest e k → EntrySplit u (then first rest) e k
after_none {u} {v} {first} {rest} {e} {k} b no_entry others = record {
  start = others.start;
  end = others.end;
  before = then first others.before;
  following = others.following;
  first = FileBefore.block b others.first;
  block = others.block;
  rest = others.rest;
  whole = ap (then first) others.whole ∙ sym (then-then first others.before (then (entry_alone e) others.following));
  index = ap (λ es. length (es ++ others.before.entries)) no_entry ∙ others.index;
}

after_other : {u v : Place} {first rest : FileReading} {e other : EntryReading} {k : ℕ} → Block longest u first v
    → first ≡ entry_alone other → EntrySplit v rest e k → EntrySplit u (then first rest) e (suc k)
after_other {u} {v} {first} {rest} {e} {other} {k} b one others = record {
  start = others.start;
  end = others.end;
  before = then first others.before;
  following = others.following;
  first = FileBefore.block b others.first;
  block = others.block;
  rest = others.rest;
  whole = ap (then first) others.whole ∙ sym (then-then first others.before (then (entry_alone e) others.following));
  index = ap (λ r. length (r.entries ++ others.before.entries)) one ∙ ap suc others.index;
}

at_entry : {u v : Place} {first rest : FileReading} {e other : EntryReading} → Block longest u first v
    → first ≡ entry_alone other → other ≡ e → File longest v rest → EntrySplit u (then first rest) e zero
at_entry {u} {v} {first} {rest} {e} {other} b one same file = record {
  start = u;
  end = v;
  before = empty_reading;
  following = rest;
  first = FileBefore.none;
  block = entry_block e b (ap (λ r. r.entries) one ∙ ap (λ x. x ∷ []) same);
  rest = file;
  whole = ap (λ r. then r rest) (one ∙ ap entry_alone same);
  index = refl;
}

get_after : (xs ys zs : List EntryReading) (k : ℕ) (e : EntryReading) → xs ≡ zs → slice_get (xs ++ ys) k ≡ Some e
    → slice_get (zs ++ ys) k ≡ Some e
get_after xs ys zs k e same found = subst (λ l. slice_get (l ++ ys) k ≡ Some e) same found

pub split_file : {u : Place} {says : FileReading} (k : ℕ) (e : EntryReading) → File longest u says
    → slice_get says.entries k ≡ Some e → EntrySplit u says e k
split_file k e (file.end end) found = absurd (cc)
split_file k e (file.skipped char passes x) found =
    let others = split_file k e x found in
    record {
      start = others.start;
      end = others.end;
      before = others.before;
      following = others.following;
      first = FileBefore.skipped char passes others.first;
      block = others.block;
      rest = others.rest;
      whole = others.whole;
      index = others.index;
    }
split_file k e (file.line_comment m x) found =
    let others = split_file k e x found in
    record {
      start = others.start;
      end = others.end;
      before = others.before;
      following = others.following;
      first = FileBefore.line_comment m others.first;
      block = others.block;
      rest = others.rest;
      whole = others.whole;
      index = others.index;
    }
split_file zero e (file.block {first = first} {rest = rest} b x) found =
    elim (one_entry b.body) [
      | inl no_entry ↦ after_none b no_entry (split_file zero e x (get_after first.entries rest.entries [] zero e no_entry found))
      | inr one ↦
          let here : Some one.0 ≡ Some e = get_after first.entries rest.entries (one.0 ∷ []) zero e (ap (λ r. r.entries) one.1) found in
          at_entry b one.1 (cc) x
    ]
split_file (suc k) e (file.block {first = first} {rest = rest} b x) found =
    elim (one_entry b.body) [
      | inl no_entry ↦ after_none b no_entry (split_file (suc k) e x (get_after first.entries rest.entries [] (suc k) e no_entry found))
      | inr one ↦ after_other b one.1
          (split_file k e x
          (get_after first.entries rest.entries (one.0 ∷ []) (suc k) e (ap (λ r. r.entries) one.1) found))
    ]

pub joined_file : {u v : Place} {before rest : FileReading} → FileBefore u before v → File longest v rest
    → File longest u (then before rest)
joined_file FileBefore.none x = x
joined_file (FileBefore.skipped char passes others) x = file.skipped char passes (joined_file others x)
joined_file (FileBefore.line_comment m others) x = file.line_comment m (joined_file others x)
joined_file {u} {v} {before} {rest} (FileBefore.block {first = first} {rest = more_says} b others) x =
    subst (λ r. File longest u r) (sym (then-then first more_says rest)) (file.block b (joined_file others x))

pub ahead_file_before : {u v : Place} {says : FileReading} → FileBefore u says v → Ahead u v
ahead_file_before {u} FileBefore.none = ahead_here u
ahead_file_before (FileBefore.skipped char passes others) = ahead_then (ahead_char char) (ahead_file_before others)
ahead_file_before (FileBefore.line_comment m others) = ahead_then (ahead_line_comment m) (ahead_file_before others)
ahead_file_before (FileBefore.block b others) = ahead_then (ahead_block b) (ahead_file_before others)
