-- Texts that parse to the same reading, except for byte offsets, in another text.
use Rattle.std.proofs.Common.{◌≡◌, inl, inr, ℕ, suc, ◌+◌, ◌-◌, ◌≤◌, Bool, true, false, cond, List, [], ◌∷◌, ◌++◌, length, drop, take, refl, sym, ap, ◌∙◌, subst, arith, length-drop}
use Rattle.std.specs.Prelude.{◌&&◌}
use Rattle.std.specs.Char.{is_ascii_whitespace}
use Rattle.std.specs.List.{list_all, prefix_len}
use Rattle.std.proofs.lemmas.List.{length-take-le, take-append-drop, take-take}
use Rattle.bib_text.specs.Places.{Place, CharAt, between}
use Rattle.bib_text.proofs.PlaceFacts.{Ahead, ahead_then, ahead_char}
use Rattle.bib_text.proofs.BoolFacts.{or_false_right}
use Rattle.bib_syntax.specs.Reading.{EntryReading, FileReading, empty_reading}
use Rattle.bib_syntax.specs.Kept.{entry_alone}
use Rattle.bib_syntax.specs.Recovery.{has_byte}
use Rattle.bib_syntax.specs.Grammar.{Block, longest}
use Rattle.edit_entries.specs.Edits.{moved_entry, moved_file, placeless}
use Rattle.edit_entries.proofs.MovedFacts.{file_before_there}
use Rattle.edit_entries.proofs.SplitFacts.{EntryBlock, FileBefore, ahead_file_before}
use Rattle.edit_entries.proofs.ZoneFacts.{there, char_there, inside_between}
use Rattle.edit_entries.proofs.CutFacts.{Stood, stood}
use Rattle.edit_entries.proofs.EntryCopyFacts.{entry_copied}
use Rattle.edit_entries.proofs.StandsFacts.{Stands, ahead_stands, ascii, between_stands, copied_before, copy_frame, first_part, last_part, past, stands_between}
use Rattle.edit_sort.specs.Sorted.{after_blank_line, begins_run, comment_in, has_block_sign, near_comment, space_in, without_white}
use Rattle.edit_sort.proofs.FeedFacts.{before_then, clear_of, feed_cut, file_before_inside}
use Rattle.edit_sort.proofs.LineFacts.{AfterFeed, feed_before}
use Rattle.edit_entries.proofs.PlacelessFacts.{entry_placeless, file_placeless}
use Rattle.edit_sort.proofs.PlainFacts.{Plain, ahead_plain, before_plain, plain_read, plain_there, stood_plain, white_split}

-- ---- an entry

-- an entry of a text parses in another text
pub record EntryThere (e : EntryReading) (u v : Place) : Type 0 where
  pub reading : EntryReading
  pub block : Block longest u (entry_alone reading) v
  pub alike : moved_entry (λ n. 0) reading ≡ moved_entry (λ n. 0) e
  pub starts : reading.start ≡ u.at
  pub ends : reading.end + 1 ≡ v.at

pub entry_there : {a b u v : Place} {e : EntryReading} → EntryBlock a e b → Stands u (between a b) v → EntryThere e u v
entry_there {a} {b} {u} {v} {e} x s =
    let c = entry_copied x s in
    let move = λ (n : ℕ). n - a.at + u.at in
    record {
      reading = moved_entry move e;
      block = c.block;
      alike = entry_placeless move e;
      starts = c.starts;
      ends = c.ends;
    }

-- a comment and the entry after it parse in another text
pub record ItemThere (bytes : List ℕ) (e : EntryReading) (u v : Place) : Type 0 where
  pub start : Place
  pub at_start : start.at ≡ u.at + length bytes
  pub comment : FileBefore u empty_reading start
  pub entry : EntryThere e start v
  pub stood : Stood u

abbrev pub ItemReads : List ℕ → List ℕ → EntryReading → Type 0
ItemReads comment bytes e = (u v : Place) → Stands u (comment ++ bytes) v → ItemThere comment e u v

pub item_reads : {m s b : Place} {e : EntryReading} → Plain m s → s.at ≤ length m.text → EntryBlock s e b
    → ItemReads (between m s) (between s b) e
item_reads {m} {s} {b} {e} plain within x u v both =
    let p = past u (between m s) in
    let comment = first_part (between m s) (between s b) both in
    let entry = entry_there x (last_part (between m s) (between s b) both) in
    let c = copied_before (ahead_plain plain) within comment entry.block.head.sign in
    let here : Plain u p =
    subst (λ q. Plain q p) c.goes_start
    (subst (λ q. Plain (there (copy_frame m s u) m) q) c.goes_end (plain_there c.zone c.start c.end plain)) in
    record { start = p; at_start = refl; comment = plain_read here; entry = entry; stood = stood_plain here (stood entry.block.head.sign) }

-- ---- the space before an entry

pub record BeforeThere (before : FileReading) (u v : Place) : Type 0 where
  pub reading : FileReading
  pub file : FileBefore u reading v
  pub alike : placeless reading ≡ placeless before

-- a space parses to the same reading, except for byte offsets, wherever it occurs before a character
abbrev pub SpaceReads : List ℕ → FileReading → Type 0
SpaceReads bytes before = (u v : Place) → Stands u bytes v → Stood v → BeforeThere before u v

plain_reads : {a m : Place} → Plain a m → m.at ≤ length a.text → SpaceReads (between a m) empty_reading
plain_reads {a} {m} plain within u v s following =
    let c = copied_before (ahead_plain plain) within s following.here in
    let here : Plain u v =
    subst (λ q. Plain q v) c.goes_start
    (subst (λ q. Plain (there (copy_frame a m u) a) q) c.goes_end (plain_there c.zone c.start c.end plain)) in
    record { reading = empty_reading; file = plain_read here; alike = refl }

zone_reads : {a s x : Place} {before : FileReading} → FileBefore a before s → CharAt s 64 x → s.at ≤ length a.text
    → SpaceReads (between a s) before
zone_reads {a} {s} {x} {before} first sign within u v stands following =
    let c = copied_before (ahead_file_before first) within stands following.here in
    let move = λ (n : ℕ). n - a.at + u.at in
    record {
      reading = moved_file move before;
      file = subst (λ r. FileBefore r (moved_file move before) v) c.goes_start
          (subst (λ r. FileBefore (there (copy_frame a s u) a) (moved_file move before) r) c.goes_end
          (file_before_there c.zone c.start c.end sign first));
      alike = file_placeless move before;
    }

-- ---- the gap before an entry, cut

white_prefix : (p : ℕ → Bool) (xs : List ℕ) → list_all p (take (prefix_len p xs) xs) ≡ true
white_prefix p [] = refl
white_prefix p (x ∷ xs) = by_test (p x) refl (white_prefix p xs)
  where
    by_test : (b : Bool) → p x ≡ b → list_all p (take (prefix_len p xs) xs) ≡ true
        → list_all p (take (cond b (1 + prefix_len p xs) 0) (x ∷ xs)) ≡ true
    by_test true is rest =
        let next : 1 + prefix_len p xs ≡ suc (prefix_len p xs) = omega arith in
        ap (λ n. list_all p (take n (x ∷ xs))) next ∙ ap (λ b. b && list_all p (take (prefix_len p xs) xs)) is ∙ rest
    by_test false is rest = refl

-- plain text is cut into plain text and these bytes at its end, which are plain too
record PlainCut (bytes : List ℕ) (u s : Place) : Type 0 where
  mid : Place
  first : Plain u mid
  rest : Plain mid s
  is : bytes ≡ between mid s

white_cut : {u s : Place} (bytes : List ℕ) → Plain u s → Stands u bytes s → PlainCut (without_white bytes) u s
white_cut {u} {s} bytes plain stands =
    let n = prefix_len is_ascii_whitespace bytes in
    let white = take n bytes in
    let rest = drop n bytes in
    let both : Stands u (white ++ rest) s = subst (λ t. Stands u t s) (sym (take-append-drop n bytes)) stands in
    let later : Stands (past u white) rest s = last_part white rest both in
    let split =
    white_split white (white_prefix is_ascii_whitespace bytes) (first_part white rest both) plain
    (ahead_stands rest later).at in
    record { mid = past u white; first = split.0; rest = split.1; is = sym (between_stands rest later) }

-- a gap is cut into a space, which parses wherever it occurs before a character, and a comment, which is plain
pub record GapCut (is_first : Bool) (a s : Place) (before : FileReading) : Type 0 where
  pub mid : Place
  pub first : Ahead a mid
  pub rest : Plain mid s
  pub comment : comment_in is_first (between a s) ≡ between mid s
  pub space : space_in is_first (between a s) ≡ between a mid
  pub reads : SpaceReads (between a mid) before

space_cut : (comment : List ℕ) {a m s : Place} → Ahead a m → Ahead m s → s.at ≤ length a.text → comment ≡ between m s
    → take (length (between a s) - length comment) (between a s) ≡ between a m
space_cut comment {a} {m} {s} first rest within is =
    let size : length (between a s) ≡ s.at - a.at =
    length-take-le (s.at - a.at) (drop a.at a.text) (omega (arith, length-drop a.at a.text)) in
    let part : length comment ≡ s.at - m.at =
    ap length is
    ∙ length-take-le (s.at - m.at) (drop m.at m.text)
    (omega (arith, length-drop m.at m.text, ap length first.text)) in
    let left : length (between a s) - length comment ≡ m.at - a.at = omega (arith, first.at, rest.at) in
    ap (λ n. take n (between a s)) left ∙ take-take (m.at - a.at) (s.at - a.at) (drop a.at a.text) (omega (arith, rest.at))

-- a gap is cut into a text that parses wherever it occurs before a character, and these bytes at its end, which are plain
record BeforeCut (bytes : List ℕ) (a s : Place) (before : FileReading) : Type 0 where
  mid : Place
  first : Ahead a mid
  rest : Plain mid s
  is : bytes ≡ between mid s
  reads : SpaceReads (between a mid) before

stays : {a s x : Place} {before : FileReading} → FileBefore a before s → CharAt s 64 x → s.at ≤ length a.text → BeforeCut [] a s before
stays {a} {s} first sign within =
    let size : 0 ≡ s.at - s.at = omega arith in
    record {
      mid = s;
      first = ahead_file_before first;
      rest = Plain.none;
      is = ap (λ n. take n (drop s.at s.text)) size;
      reads = zone_reads first sign within;
    }

plain_cut : {a s x : Place} {before : FileReading} → FileBefore a before s → CharAt s 64 x → s.at ≤ length a.text
    → has_byte 64 (between a s) ≡ false → BeforeCut (without_white (between a s)) a s before
plain_cut {a} {s} first sign within clear =
    let plain = before_plain first sign within clear in
    let cut = white_cut (between a s) plain.0 (stands_between (ahead_plain plain.0) within) in
    record {
      mid = cut.mid;
      first = ahead_plain cut.first;
      rest = cut.rest;
      is = cut.is;
      reads = subst (SpaceReads (between a cut.mid)) (sym plain.1) (plain_reads cut.first (omega (arith, (ahead_plain cut.rest).at)));
    }

-- a part of a file, a line feed and plain text parse wherever they occur before a character
feed_reads : {a l m n : Place} {before : FileReading} → FileBefore a before l → CharAt l 10 m → Plain m n
    → n.at ≤ length a.text → SpaceReads (between a n) before
feed_reads {a} {l} {m} {n} {before} first feed plain within u v s following =
    let to_feed = ahead_file_before first in
    let from_feed = ahead_then (ahead_char feed) (ahead_plain plain) in
    let c = copied_before (ahead_then to_feed from_feed) within s following.here in
    let f = copy_frame a n u in
    let il = inside_between c.zone c.start c.end to_feed from_feed in
    let im = inside_between c.zone il c.end (ahead_char feed) (ahead_plain plain) in
    let says = moved_file f.move before in
    let start : FileBefore (there f a) says (there f l) =
    file_before_inside c.zone c.start il (omega (arith, feed.next, (ahead_plain plain).at)) first in
    let end : FileBefore (there f l) empty_reading (there f n) =
    FileBefore.skipped (char_there c.zone il im feed) refl (plain_read (plain_there c.zone im c.end plain)) in
    record {
      reading = says;
      file = subst (λ q. FileBefore q says v) c.goes_start (subst (λ q. FileBefore (there f a) says q) c.goes_end (before_then start end));
      alike = file_placeless f.move before;
    }

cut_after_feed : {a l m s x : Place} {before : FileReading} (near : List ℕ) → FileBefore a before s → CharAt s 64 x
    → s.at ≤ length a.text → l.text ≡ a.text → CharAt l 10 m → a.at ≤ l.at → Stands m near s
    → has_block_sign near ≡ false
    → BeforeCut (without_white near) a s before
cut_after_feed {a} {l} {m} {s} near first sign within same feed from stands clear =
    let within' : s.at ≤ length m.text = omega (arith, within, ap length (feed.same ∙ same)) in
    let split =
    feed_cut first sign within' same feed from (ahead_stands near stands).at
    (clear_of (between m s) (ap has_block_sign (between_stands near stands) ∙ clear)) in
    let cut = white_cut near split.1 stands in
    record {
      mid = cut.mid;
      first = ahead_then (ahead_file_before split.0) (ahead_then (ahead_char feed) (ahead_plain cut.first));
      rest = cut.rest;
      is = cut.is;
      reads = feed_reads split.0 feed cut.first (omega (arith, (ahead_plain cut.rest).at, within));
    }

after_feed : {a s x : Place} {before : FileReading} (gap near : List ℕ) → FileBefore a before s → CharAt s 64 x
    → s.at ≤ length a.text → gap ≡ between a s → AfterFeed gap near → has_block_sign near ≡ false
    → BeforeCut (without_white near) a s before
after_feed {a} {s} {before = before} gap near first sign within is (inl same) clear =
    subst (λ t. BeforeCut (without_white t) a s before) (sym (same ∙ is))
    (plain_cut first sign within (ap (has_byte 64) (sym (same ∙ is)) ∙ (clear_of near clear).at))
after_feed {a} {s} gap near first sign within is (inr found) clear =
    let both : Stands a (found.0 ++ 10 ∷ near) s =
    subst (λ t. Stands a t s) (sym is ∙ found.1) (stands_between (ahead_file_before first) within) in
    let l = past a found.0 in
    let from_feed : Stands l (10 ∷ near) s = last_part found.0 (10 ∷ near) both in
    let feed : CharAt l 10 (past l (10 ∷ [])) = ascii 10 (omega arith) (first_part (10 ∷ []) near from_feed) in
    cut_after_feed {l = l} {m = past l (10 ∷ [])} near first sign within refl feed (omega arith) (last_part (10 ∷ []) near from_feed) clear

comment_cut : (is_first : Bool) {a s x : Place} {before : FileReading} → FileBefore a before s → CharAt s 64 x
    → s.at ≤ length a.text → BeforeCut (comment_in is_first (between a s)) a s before
comment_cut is_first {a} {s} {x} {before} first sign within = by_run (begins_run is_first gap) refl
  where
    gap : List ℕ
    gap = between a s

    near : List ℕ
    near = after_blank_line gap

    by_sign : (c : Bool) → has_block_sign near ≡ c → BeforeCut (cond c [] (without_white near)) a s before
    by_sign true is = stays first sign within
    by_sign false is = after_feed gap near first sign within refl (feed_before gap) is

    by_run : (c : Bool) → begins_run is_first gap ≡ c → BeforeCut (cond c (near_comment near) (without_white gap)) a s before
    by_run true is = by_sign (has_block_sign near) refl
    by_run false is = plain_cut first sign within (or_false_right is_first (has_byte 64 gap) is)

pub gap_cut : (is_first : Bool) {a s x : Place} {before : FileReading} → FileBefore a before s → CharAt s 64 x
    → s.at ≤ length a.text → GapCut is_first a s before
gap_cut is_first {a} {s} first sign within =
    let cut = comment_cut is_first first sign within in
    record {
      mid = cut.mid;
      first = cut.first;
      rest = cut.rest;
      comment = cut.is;
      space = space_cut (comment_in is_first (between a s)) cut.first (ahead_plain cut.rest) within cut.is;
      reads = cut.reads;
    }
