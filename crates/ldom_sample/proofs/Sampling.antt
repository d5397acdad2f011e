-- The sample script: its draws, and the events that its lines spell.
use Rattle.std.proofs.Common.{◌≡◌, refl, sym, ap, subst, ◌∙◌, ℕ, zero, suc, ◌+◌, ◌*◌, ◌/◌, ◌%◌, ◌<◌, ◌≤◌, Bool, true, false, List, [], ◌∷◌, ◌++◌, length, map, Some, Result, Ok, Err, IfOk, append_assoc, append-nil, arith}
use Rattle.std.specs.Prelude.{◌==◌, nat_lt, if◌then◌else◌, decimal, ⊤}
use Rattle.std.specs.Int.RustNames.{count_ones}
use Rattle.std.specs.List.{range_with_len}
use Rattle.std.proofs.lemmas.Fmt.{length-decimal-le}
use Rattle.std.proofs.lemmas.List.{length-append, length-map, length-replicate, map-append}
use Rattle.std.proofs.lemmas.List.FromFn.{length-map-range_with_len, map-range_with_len_more}
use Rattle.std.proofs.lemmas.Nat.{mod_below}
use Rattle.hex.specs.Hex.{IsBytes, encode_lower, lower_digits}
use Rattle.hex.proofs.HexLemmas.{length-encode_with}
use Rattle.kept_requests.specs.Bytes.{BytesState, filled}
use Rattle.vdisk_msg.specs.Fills.{IsFill}
use Rattle.vdisk_msg.specs.declared.request.Request.TheVariants.{Read, Write}
use Rattle.domain_script.specs.declared.event.Event.{Event}
use Rattle.domain_script.specs.declared.event.Event.TheVariants as line
use Rattle.domain_script.specs.spelled.Name.{Name}
use Rattle.domain_script.specs.declared.fields.LaneKind.{LaneKind}
use Rattle.domain_script.specs.declared.fields.LaneKind.TheVariants as lanes
use Rattle.domain_script.specs.LaneKinds.{disk_lane, lane_at}
use Rattle.domain_script.specs.NamesState.{NamesDiffer, NamesState, lane_name, noted}
use Rattle.domain_script.specs.Printed.{CanPrint, followed_by, line_text}
use Rattle.domain_script.specs.ScriptEvents.{AllSpell, no_names}
use Rattle.domain_script.specs.ScriptLines.{AreShort, fed, script_lines}
use Rattle.domain_script.specs.Spells.{Spells}
use Rattle.domain_script.specs.Words.{IsName}
use Rattle.domain_script.proofs.PrintedLines.{printed_spells}
use Rattle.domain_script.proofs.PrintedScripts.{fed_lines}
use Rattle.domain_script.proofs.ScriptLemmas.{fed-append}
use Rattle.ldom_sample.specs.Sample.{SpellSample, block_of, blocks_of, client, disturbance, draw, drawn_event, drawn_events, event_of_kind, line_event, next_draw, one_byte, sample_disk, sample_events, sample_line, sample_names, sample_text, server, turns_of}

-- THE DRAWS, two a line
pub none_on : (n : ℕ) → n ≡ draw n (2 * 0)
unfolding draw
none_on n = refl

one_on : (n k : ℕ) → draw n (k + 1) ≡ next_draw (draw n k)
unfolding draw
one_on n k = let next : k + 1 ≡ suc k = omega arith in ap (λ (j : ℕ). draw n j) next

pub first_draw : (n k x first : ℕ) → x ≡ draw n (2 * k) → first ≡ next_draw x → first ≡ draw n (2 * k + 1)
first_draw n k x first is next = next ∙ ap (λ (y : ℕ). next_draw y) is ∙ sym (one_on n (2 * k))

pub second_draw : (n k first second : ℕ) → first ≡ draw n (2 * k + 1) → second ≡ next_draw first → second ≡ draw n (2 * k + 2)
second_draw n k first second is next =
    let after : 2 * k + 2 ≡ 2 * k + 1 + 1 = omega arith in
    next ∙ ap (λ (y : ℕ). next_draw y) is ∙ sym (one_on n (2 * k + 1)) ∙ sym (ap (λ (j : ℕ). draw n j) after)

-- so a line more was put
abbrev pub drawn_text : ℕ → ℕ → List ℕ
drawn_text n k = fed (map sample_line (drawn_events n k))

pub none_put : (n : ℕ) (bytes : List ℕ) → bytes ≡ bytes ++ drawn_text n 0
unfolding drawn_events
none_put n bytes = sym (append-nil bytes)

more_text : (n k : ℕ) → drawn_text n (k + 1) ≡ drawn_text n k ++ (sample_line (line_event n k) ++ 10 ∷ [])
unfolding drawn_events
more_text n k =
    let counted : 0 + k ≡ k = omega arith in
    ap (λ (events : List Event). fed (map sample_line events)) (map-range_with_len_more (line_event n) 0 k k counted)
    ∙ ap (λ (texts : List (List ℕ)). fed texts) (map-append sample_line (drawn_events n k) (line_event n k ∷ []))
    ∙ fed-append (map sample_line (drawn_events n k)) (sample_line (line_event n k) ∷ [])

pub line_put : (n k x first second : ℕ) (before old new : List ℕ) (names : NamesState) (event : Event)
    → names ≡ sample_names false → x ≡ draw n (2 * k) → first ≡ next_draw x → second ≡ next_draw first → event ≡ drawn_event first second
    → old ≡ before ++ drawn_text n k → new ≡ old ++ (line_text names event ++ 10 ∷ []) → new ≡ before ++ drawn_text n (k + 1)
line_put n k x first second before old new names event names_are is one two event_is so_far put =
    let a : first ≡ draw n (2 * k + 1) = first_draw n k x first is one in
    let b : second ≡ draw n (2 * k + 2) = second_draw n k first second a two in
    let same : event ≡ line_event n k =
    event_is ∙ ap (λ (d : ℕ). drawn_event d second) a ∙ ap (λ (d : ℕ). drawn_event (draw n (2 * k + 1)) d) b in
    let text : line_text names event ≡ sample_line (line_event n k) =
    ap (λ (s : NamesState). line_text s event) names_are ∙ ap (λ (e : Event). sample_line e) same in
    put
    ∙ ap (λ (l : List ℕ). old ++ (l ++ 10 ∷ [])) text
    ∙ ap (λ (l : List ℕ). l ++ (sample_line (line_event n k) ++ 10 ∷ [])) so_far
    ∙ append_assoc before (drawn_text n k) (sample_line (line_event n k) ++ 10 ∷ [])
    ∙ ap (λ (l : List ℕ). before ++ l) (sym (more_text n k))

pub draws_on : (n k first second : ℕ) → first ≡ draw n (2 * k + 1) → second ≡ next_draw first → second ≡ draw n (2 * (k + 1))
draws_on n k first second is next =
    let after : 2 * k + 2 ≡ 2 * (k + 1) = omega arith in
    second_draw n k first second is next ∙ ap (λ (j : ℕ). draw n j) after

-- the text is the disk's line, the drawn ones and the last
pub all_put : (n : ℕ) (none first drawn all : List ℕ) → none ≡ [] → first ≡ none ++ (sample_line (line.Disk sample_disk) ++ 10 ∷ [])
    → drawn ≡ first ++ drawn_text n 4000 → all ≡ drawn ++ (sample_line line.Settle ++ 10 ∷ []) → all ≡ sample_text n
all_put n none first drawn all none_is first_is drawn_is all_is =
    let disk : List ℕ = sample_line (line.Disk sample_disk) in
    let last : List ℕ = sample_line line.Settle ++ 10 ∷ [] in
    let begins : first ≡ disk ++ 10 ∷ [] = first_is ∙ ap (λ (l : List ℕ). l ++ (disk ++ 10 ∷ [])) none_is in
    let rest : fed (map sample_line (drawn_events n 4000 ++ line.Settle ∷ [])) ≡ drawn_text n 4000 ++ last =
    ap (λ (texts : List (List ℕ)). fed texts) (map-append sample_line (drawn_events n 4000) (line.Settle ∷ []))
    ∙ fed-append (map sample_line (drawn_events n 4000)) (sample_line line.Settle ∷ []) in
    all_is
    ∙ ap (λ (l : List ℕ). l ++ last) drawn_is
    ∙ append_assoc first (drawn_text n 4000) last
    ∙ ap (λ (l : List ℕ). l ++ (drawn_text n 4000 ++ last)) begins
    ∙ append_assoc disk (10 ∷ []) (drawn_text n 4000 ++ last)
    ∙ ap (λ (l : List ℕ). disk ++ 10 ∷ l) (sym rest)

-- A LINE spells its event once the disk is declared, and ends the declarations
pub record IsLine (ended : Bool) (event : Event) : Type 0 where
  pub can : CanPrint (sample_names ended) event
  pub spells : Spells (sample_line event) (sample_names ended) event
  pub ends : noted (sample_names ended) event ≡ sample_names true
  pub short : length (sample_line event) ≤ 3100

name_is : IsName sample_disk.name
name_is = record { word = 100 ∷ 48 ∷ []; spelled = record { letters = (refl, refl); most = omega arith; len = refl; bytes = refl } }

-- the disk alone has a name
only_disk : (ended : Bool) (kind : LaneKind) (k : ℕ) (name : Name) → lane_name (sample_names ended) (lane_at kind k) ≡ Some name → lane_at kind k ≡ disk_lane 0
only_disk ended lanes.Disk zero name is = refl
only_disk ended lanes.Disk (suc zero) name is = absurd (cc is)
only_disk ended lanes.Disk (suc (suc k)) name is = absurd (cc is)
only_disk ended _ zero name is = absurd (cc is)
only_disk ended _ (suc k) name is = absurd (cc is)

differ : (ended : Bool) → NamesDiffer (sample_names ended)
differ ended a b name first second = only_disk ended a.kind a.number name first ∙ sym (only_disk ended b.kind b.number name second)

no_name : (kind : LaneKind) (k : ℕ) (name : Name) → lane_name no_names (lane_at kind k) ≡ Some name → ⊥
no_name lanes.Disk zero name is = cc is
no_name lanes.Disk (suc k) name is = cc is
no_name _ zero name is = cc is
no_name _ (suc k) name is = cc is

-- words of at most 20 bytes make a short line
abbrev AreWords : List (List ℕ) → Type 0
AreWords [] = ⊤
AreWords (word ∷ words) = (length word ≤ 20) × AreWords words

short_line : (text : List ℕ) (words : List (List ℕ)) (most : ℕ) → length text ≤ most → AreWords words → length (followed_by text words) ≤ most + 21 * length words
short_line text [] most le short = omega (arith, le)
short_line text (word ∷ words) most le short =
    let longer : length (text ++ 32 ∷ word) ≤ most + 21 = omega (arith, le, length-append text (32 ∷ word), short.0) in
    omega (arith, short_line (text ++ 32 ∷ word) words (most + 21) longer short.1)

number_short : (n : ℕ) → n < 65536 → length (decimal n) ≤ 20
number_short n small = length-decimal-le 20 n (omega arith) (omega (arith, small)) (omega (arith, small))

byte_short : (w : ℕ) → length (encode_lower (w ∷ [])) ≤ 20
byte_short w = omega (arith, length-encode_with lower_digits (w ∷ []))

byte_is : (w : ℕ) → w < 256 → IsBytes (w ∷ [])
byte_is w small zero = small
byte_is w small (suc i) = omega arith

fill_is : (w : ℕ) → IsFill (one_byte w)
fill_is w = record { some = omega arith; most = omega arith; room = omega (arith, length-replicate {A = ℕ} 1023 0); zeros = refl }

write_line : (ended : Bool) (b c w : ℕ) → b < 65536 → c < 65536 → w < 256 → IsLine ended (line.Issue 0 (Write b c (one_byte w)))
write_line ended b c w b_small c_small w_small =
    let can : CanPrint (sample_names ended) (line.Issue 0 (Write b c (one_byte w))) = record {
      fits = (omega arith, ((omega (arith, b_small), tt), ((omega (arith, c_small), tt), (fill_is w, tt))));
      stands = (name_is, (tt, (tt, (tt, tt))));
    } in
    record {
      can = can;
      spells = printed_spells (sample_names ended) (line.Issue 0 (Write b c (one_byte w))) (differ ended) can (tt, (tt, (tt, (byte_is w w_small, tt))));
      ends = refl;
      short = omega (
        arith,
        short_line (119 ∷ 114 ∷ 105 ∷ 116 ∷ 101 ∷ []) ((100 ∷ 48 ∷ []) ∷ decimal b ∷ decimal c ∷ encode_lower (w ∷ []) ∷ []) 5 (omega arith)
            (omega arith, (number_short b b_small, (number_short c c_small, (byte_short w, tt)))),
      );
    }

read_line : (ended : Bool) (b c : ℕ) → b < 65536 → c < 65536 → IsLine ended (line.Issue 0 (Read b c))
read_line ended b c b_small c_small =
    let can : CanPrint (sample_names ended) (line.Issue 0 (Read b c)) = record {
      fits = (omega arith, ((omega (arith, b_small), tt), ((omega (arith, c_small), tt), tt)));
      stands = (name_is, (tt, (tt, tt)));
    } in
    record {
      can = can;
      spells = printed_spells (sample_names ended) (line.Issue 0 (Read b c)) (differ ended) can (tt, (tt, (tt, tt)));
      ends = refl;
      short = omega (
        arith,
        short_line (114 ∷ 101 ∷ 97 ∷ 100 ∷ []) ((100 ∷ 48 ∷ []) ∷ decimal b ∷ decimal c ∷ []) 4 (omega arith)
            (omega arith, (number_short b b_small, (number_short c c_small, tt))),
      );
    }

client_line : (ended : Bool) (k : ℕ) → 1 ≤ k → k ≤ 100 → IsLine ended (line.Step client k)
client_line ended k least most =
    let can : CanPrint (sample_names ended) (line.Step client k) = record {
      fits = ((omega arith, tt), ((omega (arith, most), (least, most)), tt));
      stands = (name_is, (tt, tt));
    } in
    record {
      can = can;
      spells = printed_spells (sample_names ended) (line.Step client k) (differ ended) can (tt, (tt, tt));
      ends = refl;
      short = omega (
        arith,
        short_line (115 ∷ 116 ∷ 101 ∷ 112 ∷ []) ((100 ∷ 48 ∷ 46 ∷ 99 ∷ []) ∷ decimal k ∷ []) 4 (omega arith)
            (omega arith, (number_short k (omega (arith, most)), tt)),
      );
    }

server_line : (ended : Bool) (k : ℕ) → 1 ≤ k → k ≤ 100 → IsLine ended (line.Step server k)
server_line ended k least most =
    let can : CanPrint (sample_names ended) (line.Step server k) = record {
      fits = ((omega arith, tt), ((omega (arith, most), (least, most)), tt));
      stands = (name_is, (tt, tt));
    } in
    record {
      can = can;
      spells = printed_spells (sample_names ended) (line.Step server k) (differ ended) can (tt, (tt, tt));
      ends = refl;
      short = omega (
        arith,
        short_line (115 ∷ 116 ∷ 101 ∷ 112 ∷ []) ((100 ∷ 48 ∷ 46 ∷ 115 ∷ []) ∷ decimal k ∷ []) 4 (omega arith)
            (omega arith, (number_short k (omega (arith, most)), tt)),
      );
    }

round_line : (ended : Bool) (k : ℕ) → 1 ≤ k → k ≤ 100 → IsLine ended (line.Round k)
round_line ended k least most =
    let can : CanPrint (sample_names ended) (line.Round k) = record { fits = ((omega (arith, most), (least, most)), tt); stands = (tt, tt) } in
    record {
      can = can;
      spells = printed_spells (sample_names ended) (line.Round k) (differ ended) can (tt, tt);
      ends = refl;
      short = omega (arith, short_line (114 ∷ 111 ∷ 117 ∷ 110 ∷ 100 ∷ []) (decimal k ∷ []) 5 (omega arith) (number_short k (omega (arith, most)), tt));
    }

reset_line : (ended : Bool) → IsLine ended (line.Reset client)
reset_line ended =
    let can : CanPrint (sample_names ended) (line.Reset client) = record { fits = ((omega arith, tt), tt); stands = (name_is, tt) } in
    record { can = can; spells = printed_spells (sample_names ended) (line.Reset client) (differ ended) can (tt, tt); ends = refl; short = omega arith }

restart_line : (ended : Bool) → IsLine ended (line.Restart server)
restart_line ended =
    let can : CanPrint (sample_names ended) (line.Restart server) = record { fits = ((omega arith, (refl, refl)), tt); stands = (name_is, tt) } in
    record { can = can; spells = printed_spells (sample_names ended) (line.Restart server) (differ ended) can (tt, tt); ends = refl; short = omega arith }

lose_line : (ended : Bool) → IsLine ended (line.Lose client)
lose_line ended =
    let can : CanPrint (sample_names ended) (line.Lose client) = record { fits = ((omega arith, tt), tt); stands = (name_is, tt) } in
    record { can = can; spells = printed_spells (sample_names ended) (line.Lose client) (differ ended) can (tt, tt); ends = refl; short = omega arith }

settle_line : (ended : Bool) → IsLine ended line.Settle
settle_line ended =
    let can : CanPrint (sample_names ended) line.Settle = record { fits = tt; stands = tt } in
    record { can = can; spells = printed_spells (sample_names ended) line.Settle (differ ended) can tt; ends = refl; short = omega arith }

-- each that is drawn is such a line
either : (P : Event → Type 0) (b : Bool) (x y : Event) → P x → P y → P (if b then x else y)
either P true x y first second = first
either P false x y first second = second

disturbed_line : (ended : Bool) (kind turns : ℕ) → 1 ≤ turns → turns ≤ 100 → IsLine ended (disturbance kind turns)
disturbed_line ended kind turns least most =
    either (IsLine ended) (kind == 0) _ _ (reset_line ended)
    (either (IsLine ended) (kind == 1) _ _ (restart_line ended)
    (either (IsLine ended) (kind == 2) _ _ (lose_line ended) (round_line ended turns least most)))

kind_line : (ended : Bool) (kind first second : ℕ) → IsLine ended (event_of_kind kind first second)
kind_line ended kind first second =
    let block : block_of second < 960 = mod_below (second / 65536) 960 (omega arith) in
    let count : first / 1048576 % 64 < 64 = mod_below (first / 1048576) 64 (omega arith) in
    let byte : second / 256 % 256 < 256 = mod_below (second / 256) 256 (omega arith) in
    let few : second / 65536 % 16 < 16 = mod_below (second / 65536) 16 (omega arith) in
    let least : 1 ≤ turns_of second = omega arith in
    let most : turns_of second ≤ 100 = omega (arith, few) in
    either (IsLine ended) (nat_lt kind 3) _ _ (write_line ended (block_of second) (blocks_of first) (second / 256 % 256) (omega (arith, block)) (omega (arith, count)) byte)
    (either (IsLine ended) (nat_lt kind 5) _ _ (read_line ended (block_of second) (blocks_of first) (omega (arith, block)) (omega (arith, count)))
    (either (IsLine ended) (kind == 5) _ _ (client_line ended (turns_of second) least most)
    (either (IsLine ended) (kind == 6) _ _ (server_line ended (turns_of second) least most)
    (disturbed_line ended (second / 65536 % 8) (turns_of second) least most))))

pub drawn_line : (ended : Bool) (first second : ℕ) → IsLine ended (drawn_event first second)
drawn_line ended first second = kind_line ended (first / 65536 % 8) first second

-- so all that is drawn may be printed
pub can_print_drawn : (names : NamesState) (event : Event) (first second : ℕ) → names ≡ sample_names false → event ≡ drawn_event first second → CanPrint names event
can_print_drawn names event first second names_are is =
    subst (λ (s : NamesState). CanPrint s event) (sym names_are) (subst (λ (e : Event). CanPrint (sample_names false) e) (sym is) (drawn_line false first second).can)

pub can_print_settle : (names : NamesState) → names ≡ sample_names false → CanPrint names line.Settle
can_print_settle names names_are = subst (λ (s : NamesState). CanPrint s line.Settle) (sym names_are) (settle_line false).can

-- THE DISK'S LINE declares it
disk_can : CanPrint no_names (line.Disk sample_disk)
unfolding count_ones
disk_can = record {
  fits = (name_is, ((omega arith, (omega arith, omega arith)), ((omega arith, (omega arith, omega arith, refl)), ((omega arith, (omega arith, omega arith, refl)), tt))));
  stands = (record { open_still = refl; few = omega arith; free = (tt, tt) }, (tt, (tt, (tt, tt))));
}

disk_spells : Spells (sample_line (line.Disk sample_disk)) no_names (line.Disk sample_disk)
disk_spells = printed_spells no_names (line.Disk sample_disk) (λ a b name first second. absurd (no_name a.kind a.number name first)) disk_can (tt, (tt, (tt, (tt, tt))))

pub can_print_disk : (names : NamesState) → names ≡ no_names → CanPrint names (line.Disk sample_disk)
can_print_disk names none = subst (λ (s : NamesState). CanPrint s (line.Disk sample_disk)) (sym none) disk_can

-- THE LINES AFTER IT
after_disk : (n : ℕ) (ended : Bool) (ks : List ℕ)
    → AllSpell (map sample_line (map (line_event n) ks ++ line.Settle ∷ [])) (sample_names ended) (map (line_event n) ks ++ line.Settle ∷ []) (sample_names true)
after_disk n ended [] = ((settle_line ended).spells, refl)
after_disk n ended (k ∷ ks) =
    let event : Event = line_event n k in
    let drawn : IsLine ended event = drawn_line ended (draw n (2 * k + 1)) (draw n (2 * k + 2)) in
    let rest : List Event = map (line_event n) ks ++ line.Settle ∷ [] in
    (drawn.spells, subst (λ (names : NamesState). AllSpell (map sample_line rest) names rest (sample_names true)) (sym drawn.ends) (after_disk n true ks))

short_after : (n : ℕ) (ks : List ℕ) → AreShort (map sample_line (map (line_event n) ks ++ line.Settle ∷ []))
short_after n [] = ((settle_line true).short, tt)
short_after n (k ∷ ks) = ((drawn_line true (draw n (2 * k + 1)) (draw n (2 * k + 2))).short, short_after n ks)

-- of so many drawn ones
drawn_spell : (n count : ℕ)
    → AllSpell (map sample_line (drawn_events n count ++ line.Settle ∷ [])) (sample_names false) (drawn_events n count ++ line.Settle ∷ []) (sample_names true)
unfolding drawn_events
drawn_spell n count = after_disk n false (range_with_len 0 count)

drawn_short : (n count : ℕ) → AreShort (map sample_line (drawn_events n count ++ line.Settle ∷ []))
unfolding drawn_events
drawn_short n count = short_after n (range_with_len 0 count)

drawn_many : (n count : ℕ) → length (drawn_events n count) ≡ count
unfolding drawn_events
drawn_many n count = length-map-range_with_len (line_event n) 0 count

disk_short : length (sample_line (line.Disk sample_disk)) ≤ 3100
disk_short =
    let bound : length (sample_line (line.Disk sample_disk)) ≤ 4 + 21 * 4 =
    short_line (100 ∷ 105 ∷ 115 ∷ 107 ∷ []) ((100 ∷ 48 ∷ []) ∷ decimal 1024 ∷ decimal 64 ∷ decimal 64 ∷ []) 4 (omega arith)
    (omega arith, (number_short 1024 (omega arith), (number_short 64 (omega arith), (number_short 64 (omega arith), tt)))) in
    omega (arith, bound)

pub spell_sample : (n : ℕ) → SpellSample n (map sample_line (sample_events n))
spell_sample n = record {
  spelled = (disk_spells, drawn_spell n 4000);
  few = omega (arith, length-map (drawn_events n 4000 ++ line.Settle ∷ []) sample_line, length-append (drawn_events n 4000) (line.Settle ∷ []), drawn_many n 4000);
  short = (disk_short, drawn_short n 4000);
}

-- so its text is a script of these lines
pub text_spells : (n : ℕ) (bytes : List ℕ) → bytes ≡ sample_text n → SpellSample n (script_lines bytes)
text_spells n bytes is =
    let lines : SpellSample n (map sample_line (sample_events n)) = spell_sample n in
    subst (λ (texts : List (List ℕ)). SpellSample n texts) (sym (ap (λ (l : List ℕ). script_lines l) is ∙ fed_lines (map sample_line (sample_events n)) no_names (sample_events n) (sample_names true) lines.spelled)) lines

-- and where memory sufficed it is the answer
pub text_kept : {E : Type 0} (r : Result BytesState E) (bytes text : List ℕ) → IfOk r (λ kept. kept ≡ filled bytes) → bytes ≡ text → IfOk r (λ kept. kept.items ≡ text)
text_kept (Err e) bytes text kept is = tt
text_kept (Ok b) bytes text kept is = ap (λ (s : BytesState). s.items) kept ∙ is

pub lines_kept : {E : Type 0} (n : ℕ) (r : Result BytesState E) → IfOk r (λ kept. kept.items ≡ sample_text n) → IfOk r (λ kept. SpellSample n (script_lines kept.items))
lines_kept n (Err e) kept = tt
lines_kept n (Ok b) kept = text_spells n b.items kept
