-- Nested arguments: the parse of each, and the output for all of them.
use Rattle.std.proofs.Common.{◌≡◌, ℕ, suc, ◌+◌, ◌-◌, ◌<◌, ◌≤◌, Bool, true, false, List, [], ◌∷◌, ◌++◌, length, map, refl, sym, ap, subst, ◌∙◌, append-nil, arith, inl, inr, Some, take, drop, length-append}
use Rattle.std.specs.Prelude.{encode_utf8_all, slice_index}
use Rattle.std.specs.List.{list_all}
use Rattle.std.specs.Str.{chars, IsUtf8}
use Rattle.std.proofs.Math.Seq.{take-append-add}
use Rattle.std.proofs.lemmas.List.{drop-take, length-take}
use Rattle.std.proofs.lemmas.Str.{encodes-append, encodes-chars, length-le-encodes}
use Rattle.bib_text.specs.Places.{Place}
use Rattle.bib_text.proofs.ListFacts.{some_same}
use Rattle.bib_chunks.specs.Formatted.{formatted_atoms, is_unbroken}
use Rattle.bib_chunks.specs.Styled.{Atom}
use Rattle.bib_contents.specs.Arguments.{AreKnown, Closes, IsInside, KeepsFrame, IsReadTo, IsShorterThan, StandsRight, flat_if, argument_written}
use Rattle.bib_contents.specs.Commands.{command_text}
use Rattle.bib_contents.specs.Contents.{Argument, ContentUnit, IsNext, Reads, character, unit_spelling, StaysBetween}
use Rattle.bib_contents.specs.ContentErrors.{ContentFails}
use Rattle.bib_contents.specs.Contents.Reads.{end}
use Rattle.bib_contents.specs.Effects.{IsFit, before_argument, effect_text}
use Rattle.bib_syntax.specs.declared.raw.ParseError.{ParseError}
use Rattle.bib_syntax.specs.declared.raw.ParseErrorKind.{ParseErrorKind}
use Rattle.bib_contents.specs.Progress.{left}
use Rattle.bib_contents.specs.declared.arguments.Frame.{Frame}
use Rattle.bib_contents.specs.declared.commands.Effect.{Effect}
use Rattle.bib_contents.specs.declared.arguments.Next.{Next}
use Rattle.bib_contents.specs.declared.arguments.Next.TheVariants.{Read, Follows, End}
use Rattle.bib_contents.specs.declared.ends.Ends.{Ends}
use Rattle.bib_contents.proofs.EffectFacts.{wrote_after}
use Rattle.bib_contents.proofs.UnitFacts.{command_parts}
use Rattle.bib_contents.proofs.ArgumentReading.{fails_argument, name_plain, read_more, written_none}
use Rattle.bib_contents.proofs.LaidFacts.{is_flat_at, laid_given, written_characters, led_characters, capped_given}
use Rattle.bib_contents.proofs.ReaderFacts.{goes_here, goes_unit, unit_shorter}
use Rattle.bib_contents.proofs.WholeFacts.{whole_reads, whole_capped}

-- `frame` parses the argument of the command `name`. The output of the argument begins after `under` and the text before the
-- argument. The argument is between the offsets `low` and `high`.
pub record IsBegun (frame : Frame) (name under : List ℕ) (low high : ℕ) : Type 0 where
  pub gives : (argument : List ℕ) → command_text name (Some argument) ≡ effect_text frame.effect name argument
  pub fit : IsFit frame.effect
  pub plain : list_all is_unbroken name ≡ true
  pub start : length (encode_utf8_all (under ++ before_argument frame.effect name)) ≡ frame.start
  pub following : low ≤ frame.s.at
  pub within : length frame.s.text ≤ high
  pub right : StandsRight frame

-- frames that wait, each for the argument of the one above. The topmost waits for the argument `whole` of the command
-- `name`, before which the output is `under`. The lowest argument is the first one.
pub data AreWaiting (first_name first_whole first_under : List ℕ) (ends : Ends) (low high : ℕ) : List ℕ → List ℕ → Bool
    → List ℕ → List Frame → Type 0 where
  none : {name whole under : List ℕ} {is_flat : Bool} → name ≡ first_name → whole ≡ first_whole → is_flat ≡ false
      → under ≡ first_under → AreWaiting first_name first_whole first_under ends low high name whole is_flat under []
  above : {name whole under : List ℕ} {is_flat : Bool} {frame : Frame} {frames : List Frame}
      (below_name below_whole below_under before space : List ℕ) → IsBegun frame below_name below_under low high
      → AreKnown ends frame.s.text
      → IsReadTo frame.is_flat below_whole (below_under ++ before_argument frame.effect below_name) before frame.depth
      (encode_utf8_all under)
      → IsNext false (ContentUnit.command name space (Argument.braced whole)) before (left frame.s)
      → is_flat ≡ is_flat_at frame.is_flat frame.depth
      → AreWaiting first_name first_whole first_under ends low high below_name below_whole frame.is_flat below_under frames
      → AreWaiting first_name first_whole first_under ends low high name whole is_flat under (frame ∷ frames)

-- an argument is being parsed, and frames wait for it
pub record IsReading (first_name first_whole first_under : List ℕ) (ends : Ends) (low high : ℕ) (frame : Frame)
    (frames : List Frame) (now : List ℕ) : Type 0 where
  pub name : List ℕ
  pub whole : List ℕ
  pub under : List ℕ
  pub begun : IsBegun frame name under low high
  pub known : AreKnown ends frame.s.text
  pub read : IsReadTo frame.is_flat whole (under ++ before_argument frame.effect name) (left frame.s) frame.depth now
  pub waiting : AreWaiting first_name first_whole first_under ends low high name whole frame.is_flat under frames

-- the number of characters left in frames, and one for each frame
abbrev pub weight : List Frame → ℕ
weight [] = 0
weight (frame ∷ frames) = length (left frame.s) + 1 + weight frames

-- `IsBegun` stays true for a later state of the frame
pub begun_on : {frame on : Frame} {name under : List ℕ} {low high : ℕ} → IsBegun frame name under low high
    → KeepsFrame frame on → StandsRight on → IsBegun on name under low high
begun_on {frame} {on} {name} {under} {low} {high} begun kept right = record {
  gives = λ argument. begun.gives argument ∙ ap (λ e. effect_text e name argument) (sym kept.effect);
  fit = subst IsFit (sym kept.effect) begun.fit;
  plain = begun.plain;
  start = ap (λ e. length (encode_utf8_all (under ++ before_argument e name))) kept.effect ∙ begun.start ∙ sym kept.start;
  following = (let a : low ≤ frame.s.at = begun.following in let b : frame.s.at ≤ on.s.at = kept.ahead in omega arith);
  within =
      (let a : length frame.s.text ≤ high = begun.within in
      let b : length on.s.text ≡ length frame.s.text = ap length kept.text in omega arith);
  right = right;
}

-- the state `IsReadTo` of an argument is the same for an equal effect
based_on : (old new : Effect) {flat : Bool} {whole rest now : List ℕ} {depth : ℕ} (under name : List ℕ) → new ≡ old
    → IsReadTo flat whole (under ++ before_argument old name) rest depth now
    → IsReadTo flat whole (under ++ before_argument new name) rest depth now
based_on old new {flat} {whole} {rest} {now} {depth} under name same read =
    subst (λ e. IsReadTo flat whole (under ++ before_argument e name) rest depth now) (sym same) read

-- an argument that was parsed to its end is parsed as its atoms
ended_as : {flat : Bool} {whole base now : List ℕ} {depth : ℕ} (read : IsReadTo flat whole base [] depth now)
    → Reads false 0 whole read.atoms
ended_as {whole = whole} read = subst (Reads false 0 whole) (append-nil read.atoms) (read.goes.onward [] end)

module _ {first_name first_whole first_under : List ℕ} {ends : Ends} {low high : ℕ} where
  waiting_on : (old new : Bool) {name whole under : List ℕ} {frames : List Frame} → new ≡ old
      → AreWaiting first_name first_whole first_under ends low high name whole old under frames
      → AreWaiting first_name first_whole first_under ends low high name whole new under frames
  waiting_on old new {name} {whole} {under} {frames} same waiting =
      subst (λ flat. AreWaiting first_name first_whole first_under ends low high name whole flat under frames)
      (sym same) waiting

  -- a unit was parsed
  pub reading_on : {frame on : Frame} {frames : List Frame} {now more : List ℕ}
      (reading : IsReading first_name first_whole first_under ends low high frame frames now) → KeepsFrame frame on
      → StandsRight on
      → IsReadTo on.is_flat reading.whole (reading.under ++ before_argument frame.effect reading.name) (left on.s) on.depth
      more → IsReading first_name first_whole first_under ends low high on frames more
  reading_on {frame} {on} reading kept right read = record {
    name = reading.name;
    whole = reading.whole;
    under = reading.under;
    begun = begun_on reading.begun kept right;
    known = subst (AreKnown ends) (sym kept.text) reading.known;
    read = based_on frame.effect on.effect reading.under reading.name kept.effect read;
    waiting = waiting_on frame.is_flat on.is_flat kept.is_flat reading.waiting;
  }

  -- the argument of a command in the argument was begun
  pub reading_above : {frame on above : Frame} {frames : List Frame} {now more most name : List ℕ}
      (before space inside : List ℕ)
      (reading : IsReading first_name first_whole first_under ends low high frame frames now) → KeepsFrame frame on
      → StandsRight on
      → IsReadTo on.is_flat reading.whole (reading.under ++ before_argument frame.effect reading.name) before on.depth
      (encode_utf8_all more)
      → IsNext false (ContentUnit.command name space (Argument.braced inside)) before (left on.s)
      → IsBegun above name more low high → AreKnown ends above.s.text → above.is_flat ≡ is_flat_at on.is_flat on.depth
      → IsReadTo above.is_flat inside (more ++ before_argument above.effect name) (left above.s) above.depth most
      → IsReading first_name first_whole first_under ends low high above (on ∷ frames) most
  reading_above {frame} {on} {above} {frames} {now} {more} {most} {name} before space inside reading kept right read one
      begun known flat begins = record {
        name = name;
        whole = inside;
        under = more;
        begun = begun;
        known = known;
        read = begins;
        waiting =
            AreWaiting.above reading.name reading.whole reading.under before space (begun_on reading.begun kept right)
            (subst (AreKnown ends) (sym kept.text) reading.known)
            (based_on frame.effect on.effect reading.under reading.name kept.effect read) one flat
            (waiting_on frame.is_flat on.is_flat kept.is_flat reading.waiting);
      }

  -- after the end of an argument, parsing continues in the frame below. The text of the command is appended to the output of that frame.
  below_of : {name whole under most : List ℕ} {is_flat : Bool} {below : Frame} {frames : List Frame}
      → AreWaiting first_name first_whole first_under ends low high name whole is_flat under (below ∷ frames)
      → (atoms : List Atom) → Reads false 0 whole atoms
      → list_all is_unbroken name ≡ true
      → most ≡ encode_utf8_all (under ++ command_text name (Some (argument_written is_flat atoms)))
      → IsReading first_name first_whole first_under ends low high below frames most
  below_of {name} {whole} {under} {most} {is_flat} {below} {frames}
      (AreWaiting.above below_name below_whole below_under before space begun known read one flat waiting) atoms
      inner plain wrote =
      let formatted = formatted_atoms false atoms in
      let capped = whole_capped (whole_reads inner) in
      let said = command_text name (Some formatted) in
      record {
        name = below_name;
        whole = below_whole;
        under = below_under;
        begun = begun;
        known = known;
        read =
            read_more (map (character below.depth) said) (command_text name (Some (argument_written is_flat atoms))) read
            (goes_unit {u = ContentUnit.command name space (Argument.braced whole)} {inner = atoms} one refl
            (λ argument holds. subst (λ t. Reads false 0 t atoms) (some_same holds) inner) refl)
            (led_characters below.depth said (capped_given name formatted plain capped).first)
            (written_characters below.is_flat below.depth said
            ∙ laid_given (is_flat_at below.is_flat below.depth) name formatted plain capped
            ∙ ap (λ b. command_text name (Some (flat_if b formatted))) (sym flat))
            (wrote ∙ encodes-append under (command_text name (Some (argument_written is_flat atoms))));
        waiting = waiting;
      }

  pub reading_below : {frame on below : Frame} {frames : List Frame} {now more most : List ℕ}
      (reading : IsReading first_name first_whole first_under ends low high frame (below ∷ frames) now)
      → KeepsFrame frame on
      →
      (read : IsReadTo on.is_flat reading.whole (reading.under ++ before_argument frame.effect reading.name) [] on.depth
      more)
      → most ≡ encode_utf8_all (reading.under ++ effect_text on.effect reading.name (argument_written on.is_flat read.atoms))
      → IsReading first_name first_whole first_under ends low high below frames most
  reading_below {frame} {on} {below} {frames} {now} {more} {most} reading kept read wrote =
      let gives : effect_text on.effect reading.name (argument_written on.is_flat read.atoms)
      ≡ command_text reading.name (Some (argument_written frame.is_flat read.atoms)) =
      ap (λ e. effect_text e reading.name (argument_written on.is_flat read.atoms)) kept.effect
      ∙ sym (reading.begun.gives (argument_written on.is_flat read.atoms))
      ∙ ap (λ b. command_text reading.name (Some (argument_written b read.atoms))) kept.is_flat in
      below_of reading.waiting read.atoms (ended_as read) reading.begun.plain
      (wrote ∙ ap (λ cs. encode_utf8_all (reading.under ++ cs)) gives)

  -- the first argument ended
  done_of : {name whole under most : List ℕ} {is_flat : Bool}
      → AreWaiting first_name first_whole first_under ends low high name whole is_flat under [] → (atoms : List Atom)
      → Reads false 0 whole atoms
      → most ≡ encode_utf8_all (under ++ command_text name (Some (argument_written is_flat atoms)))
      → (inner : List Atom) × Reads false 0 first_whole inner
      × (most ≡ encode_utf8_all (first_under ++ command_text first_name (Some (formatted_atoms false inner))))
  done_of {name} {whole} {under} {most} {is_flat} (AreWaiting.none name_is whole_is flat_is under_is) atoms inner wrote = (
    atoms,
    subst (λ t. Reads false 0 t atoms) whole_is inner,
    wrote ∙ ap (λ xs. encode_utf8_all (xs ++ command_text name (Some (argument_written is_flat atoms)))) under_is
        ∙ ap (λ xs. encode_utf8_all (first_under ++ command_text xs (Some (argument_written is_flat atoms)))) name_is
        ∙ ap (λ b. encode_utf8_all (first_under ++ command_text first_name (Some (argument_written b atoms)))) flat_is,
  )

  pub reading_done : {frame on : Frame} {now more most : List ℕ}
      (reading : IsReading first_name first_whole first_under ends low high frame [] now) → KeepsFrame frame on
      →
      (read : IsReadTo on.is_flat reading.whole (reading.under ++ before_argument frame.effect reading.name) [] on.depth
      more)
      → most ≡ encode_utf8_all (reading.under ++ effect_text on.effect reading.name (argument_written on.is_flat read.atoms))
      → (inner : List Atom) × Reads false 0 first_whole inner
      × (most ≡ encode_utf8_all (first_under ++ command_text first_name (Some (formatted_atoms false inner))))
  reading_done {frame} {on} {now} {more} {most} reading kept read wrote =
      let gives : effect_text on.effect reading.name (argument_written on.is_flat read.atoms)
      ≡ command_text reading.name (Some (argument_written frame.is_flat read.atoms)) =
      ap (λ e. effect_text e reading.name (argument_written on.is_flat read.atoms)) kept.effect
      ∙ sym (reading.begun.gives (argument_written on.is_flat read.atoms))
      ∙ ap (λ b. command_text reading.name (Some (argument_written b read.atoms))) kept.is_flat in
      done_of reading.waiting read.atoms (ended_as read) (wrote ∙ ap (λ cs. encode_utf8_all (reading.under ++ cs)) gives)

  -- if a nested argument fails, the first one does
  pub fails_up : {name whole under : List ℕ} {is_flat : Bool} {frames : List Frame} {kind : ParseErrorKind}
      → AreWaiting first_name first_whole first_under ends low high name whole is_flat under frames → ContentFails false 0 whole kind
      → ContentFails false 0 first_whole kind
  fails_up {kind = kind} (AreWaiting.none name_is whole_is flat_is under_is) fails = subst (λ t. ContentFails false 0 t kind) whole_is fails
  fails_up (AreWaiting.above below_name below_whole below_under before space begun known read one flat waiting) fails =
      fails_up waiting (fails_argument read one fails)

  -- the first argument was begun
  pub reading_first : {frame : Frame} {now : List ℕ} → IsBegun frame first_name first_under low high
      → AreKnown ends frame.s.text → frame.is_flat ≡ false
      → IsReadTo frame.is_flat first_whole (first_under ++ before_argument frame.effect first_name) (left frame.s)
      frame.depth now
      → IsReading first_name first_whole first_under ends low high frame [] now
  reading_first {frame} begun known flat read = record {
    name = first_name;
    whole = first_whole;
    under = first_under;
    begun = begun;
    known = known;
    read = read;
    waiting = AreWaiting.none refl refl flat refl;
  }

-- an argument that begins was parsed up to its start
pub read_start : {is_flat : Bool} {whole base rest now : List ℕ} {depth : ℕ} → rest ≡ whole → depth ≡ 0
    → now ≡ encode_utf8_all base → IsReadTo is_flat whole base rest depth now
read_start {is_flat} {whole} {base} {rest} {now} {depth} same shallow wrote = record {
  atoms = [];
  goes = rw (same, shallow) (goes_here false 0 whole);
  wrote = wrote ∙ ap encode_utf8_all (sym (append-nil base)) ∙ ap (λ cs. encode_utf8_all (base ++ cs)) (sym (written_none is_flat));
}

-- a text with `n` first bytes has at least `n` bytes
take_shorter : (n : ℕ) (bs : List ℕ) → length (take n bs) ≡ n → n ≤ length bs
take_shorter n bs is = omega (arith, length-take n bs, is)

drop_of_take : (k n : ℕ) (bs : List ℕ) → k ≤ n → drop k (take n bs) ≡ take (n - k) (drop k bs)
drop_of_take k n bs within =
    let whole : n ≡ k + (n - k) = omega (arith, within) in ap (λ m. drop k (take m bs)) whole ∙ drop-take k (n - k) bs

-- a brace that closes an argument does so in the first `n` bytes of the text, if they reach beyond it
closes_in : {text : List ℕ} {begin end : ℕ} (n : ℕ) → Closes text begin end → end < n → Closes (take n text) begin end
closes_in {text} {begin} {end} n closes within =
    let wide : end ≡ begin + length (encode_utf8_all closes.inside) = closes.width in
    let tail : drop end (take n text) ≡ take (n - end) (drop end text) = drop_of_take end n text (omega (arith, within)) in
    let more : n - begin ≡ length (encode_utf8_all closes.inside) + (n - end) = omega (arith, wide, within) in
    let next : n - end ≡ suc (n - (end + 1)) = omega (arith, within) in
    record {
      inside = closes.inside;
      width = wide;
      spelt =
          drop_of_take begin n text (omega (arith, wide, within)) ∙ ap (take (n - begin)) closes.spelt
          ∙ ap (λ k. take k (encode_utf8_all closes.inside ++ drop end text)) more
          ∙ take-append-add (encode_utf8_all closes.inside) (drop end text) (n - end)
          ∙ ap (λ bs. encode_utf8_all closes.inside ++ bs) (sym tail);
      balanced = closes.balanced;
      brace =
          tail ∙ ap (take (n - end)) closes.brace ∙ ap (λ k. take k (125 ∷ drop (end + 1) text)) next
          ∙ ap (λ bs. 125 ∷ bs) (sym (drop_of_take (end + 1) n text (omega (arith, within))));
    }

-- ends that are known in a text are known in an argument of it
pub known_inside : (ends : Ends) {text : List ℕ} {low high : ℕ} {inside : Place} → AreKnown ends text
    → IsInside text low inside high → AreKnown ends inside.text
known_inside ends {text} {low} {high} {inside} known stands index some within =
    let long : length inside.text ≤ length text = take_shorter (length inside.text) text (sym (ap length stands.cut)) in
    let end = slice_index ends.places.items index in
    subst (λ bs. Closes bs (ends.start + index) end) (sym stands.cut)
    (closes_in (length inside.text) (known index some (omega (arith, within, long))) (omega (arith, within)))

-- `IsShorterThan` is also true for a larger size and a smaller lower offset
pub shorter_wider : (next : Next) (size wide low lower : ℕ) (text same : List ℕ) (s : Place)
    → IsShorterThan size text low s next → size ≤ wide → lower ≤ low → text ≡ same
    → IsShorterThan wide same lower s next
shorter_wider Read size wide low lower text same s shorter wider following is = omega (arith, shorter, wider)
shorter_wider (Follows name inside) size wide low lower text same s shorter wider following is = (
  omega (arith, shorter.0, wider),
  record {
    cut = shorter.1.cut ∙ ap (take (length inside.text)) is;
    following = omega (arith, shorter.1.following, following);
    within = shorter.1.within;
    ends = shorter.1.ends;
  },
)
shorter_wider End size wide low lower text same s shorter wider following is = omega (arith, shorter, wider)

-- a unit that comes next has at least one byte
pub unit_ahead : (u : ContentUnit) (s t : Place) → IsNext false u (left s) (left t)
    → t.at ≡ s.at + length (encode_utf8_all (unit_spelling u)) → s.at + 1 ≤ t.at
unit_ahead u s t one next =
    let shorter : length (left t) < length (left s) = (unit_shorter one).0 in
    let size : length (left s) ≡ length (unit_spelling u) + length (left t) =
    ap length one.spells ∙ length-append (unit_spelling u) (left t) in
    let wide : length (unit_spelling u) ≤ length (encode_utf8_all (unit_spelling u)) = length-le-encodes (unit_spelling u) in
    omega arith

-- the rest and a command's argument in braces are together at least two characters shorter than the text that begins with the command
pub applied_shorter : (name space argument before rest : List ℕ)
    → IsNext false (ContentUnit.command name space (Argument.braced argument)) before rest
    → length rest + length argument + 1 < length before
applied_shorter name space argument before rest one =
    let size : length before
    ≡ length (unit_spelling (ContentUnit.command name space (Argument.braced argument))) + length rest =
    ap length one.spells
    ∙ length-append (unit_spelling (ContentUnit.command name space (Argument.braced argument))) rest in
    let inside : length (argument ++ 125 ∷ []) ≡ length argument + 1 = length-append argument (125 ∷ []) in
    let spaced : length (space ++ 123 ∷ (argument ++ 125 ∷ [])) ≡ length space + length (123 ∷ (argument ++ 125 ∷ [])) =
    length-append space (123 ∷ (argument ++ 125 ∷ [])) in
    let named : length (name ++ (space ++ 123 ∷ (argument ++ 125 ∷ [])))
    ≡ length name + length (space ++ 123 ∷ (argument ++ 125 ∷ [])) =
    length-append name _ in
    omega arith

-- an argument was begun, after UTF-8 output
pub begun_here : {frame : Frame} {name old now : List ℕ} {inside : Place} {low high : ℕ} → frame.s ≡ inside
    → frame.depth ≡ 0 → ((argument : List ℕ) → command_text name (Some argument) ≡ effect_text frame.effect name argument)
    → IsFit frame.effect → list_all is_unbroken name ≡ true
    → now ≡ old ++ encode_utf8_all (before_argument frame.effect name) → frame.start ≡ length now → IsUtf8 old
    → low ≤ inside.at → length inside.text ≤ high → inside.at ≤ length inside.text
    → IsBegun frame name (chars old) low high
begun_here {frame} {name} {old} {now} {inside} {low} {high} same shallow gives fit plain wrote start utf8 following within stands = record {
  gives = gives;
  fit = fit;
  plain = plain;
  start = sym (ap length (wrote_after old now (before_argument frame.effect name) utf8 wrote)) ∙ sym start;
  following = rw same following;
  within = rw same within;
  right = record { within = rw same stands; deep = rw shallow (omega arith) };
}

-- at the start of an argument, after UTF-8 output, nothing was parsed
pub read_begun : (frame : Frame) {flat : Bool} (name old now : List ℕ) {inside : Place} → frame.s ≡ inside
    → frame.depth ≡ 0 → now ≡ old ++ encode_utf8_all (before_argument frame.effect name) → IsUtf8 old
    → IsReadTo flat (left inside) (chars old ++ before_argument frame.effect name) (left frame.s) frame.depth now
read_begun frame name old now same shallow wrote utf8 =
    read_start (ap left same) shallow (wrote_after old now (before_argument frame.effect name) utf8 wrote)

module _ {first_name first_whole first_under : List ℕ} {ends : Ends} {low high : ℕ} where
  -- after UTF-8 output, a command with an argument in braces comes next, and the argument was begun
  pub reading_follows : {frame on above : Frame} {frames : List Frame} {now more most name : List ℕ} {inside : Place}
      (reading : IsReading first_name first_whole first_under ends low high frame frames now) → KeepsFrame frame on
      → StandsRight on → IsUtf8 more
      → (before space : List ℕ)
      → IsReadTo on.is_flat reading.whole (reading.under ++ before_argument frame.effect reading.name) before on.depth more
      → IsNext false (ContentUnit.command name space (Argument.braced (left inside))) before (left on.s)
      → IsInside frame.s.text frame.s.at inside on.s.at → above.s ≡ inside → above.depth ≡ 0
      → above.is_flat ≡ is_flat_at on.is_flat on.depth
      → ((argument : List ℕ) → command_text name (Some argument) ≡ effect_text above.effect name argument) → IsFit above.effect
      → most ≡ more ++ encode_utf8_all (before_argument above.effect name) → above.start ≡ length most
      → IsReading first_name first_whole first_under ends low high above (on ∷ frames) most
  reading_follows {frame} {on} {above} {frames} {now} {more} {most} {name} {inside} reading kept right utf8 before space
      read one stands same shallow flat gives fit wrote start =
      let named = name_plain name (command_parts false name space (left on.s) (Argument.braced (left inside)) one.fits).1 in
      let following : low ≤ inside.at =
      (let a : low ≤ frame.s.at = reading.begun.following in
      let b : frame.s.at ≤ inside.at = stands.following in omega arith) in
      let long : length inside.text ≤ length frame.s.text = take_shorter (length inside.text) frame.s.text (sym (ap length stands.cut)) in
      let within : length inside.text ≤ high = (let a : length frame.s.text ≤ high = reading.begun.within in omega arith) in
      reading_above before space (left inside) reading kept right
      (subst
      (λ bs.
      IsReadTo on.is_flat reading.whole (reading.under ++ before_argument frame.effect reading.name) before
      on.depth bs) (sym (encodes-chars more utf8)) read) one
      (begun_here same shallow gives fit named wrote start utf8 following within stands.within)
      (subst (λ u. AreKnown ends u.text) (sym same) (known_inside ends reading.known stands)) flat
      (read_begun above name more most same shallow wrote utf8)

-- an error between two offsets is between wider ones
pub stays_wider : {low high lower higher : ℕ} {e : ParseError} → StaysBetween low high e → lower ≤ low → high ≤ higher
    → StaysBetween lower higher e
stays_wider (inl memory) lows highs = inl memory
stays_wider (inr lies) lows highs = inr (omega (arith, lies.0, lows), lies.1, omega (arith, lies.2, highs))
