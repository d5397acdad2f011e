-- Bytes spell at most one well-formed message.
use Rattle.std.proofs.Common.{◌≡◌, ℕ, ◌-◌, List, ◌++◌, take, drop, replicate, refl, sym, ap, ◌∙◌, arith}
use Rattle.std.proofs.lemmas.List.{take-append-drop}
use Rattle.ldc_packet.specs.declared.packet.Subtype.{Subtype}
use Rattle.ldc_packet.specs.declared.packet.Subtype.TheVariants.{Info, Ack, Nack}
use Rattle.ldc_packet.specs.Spelling.{subtype_code}
use Rattle.map_table.specs.declared.cookie.Cookie.{Cookie}
use Rattle.map_table.specs.Cookies.{cookies_at, no_cookie}
use Rattle.vio_tag.specs.declared.message.Message.{Message}
use Rattle.vio_tag.specs.declared.message.MsgBody.{MsgBody}
use Rattle.vio_tag.specs.declared.message.MsgBody.TheVariants.{Ver, Attr, DringReg, DringUnreg, Rdx, DringData, Mcast, Plain}
use Rattle.vio_tag.specs.Form.{AreCookies, HasForm, IsWellFormed}
use Rattle.vio_tag.specs.Spelling.{SpellsBody, SpellsMessage, envelope_code}

-- a code names one subtype
same_subtype : (s t : Subtype) → subtype_code s ≡ subtype_code t → s ≡ t
same_subtype Info Info is = refl
same_subtype Ack Ack is = refl
same_subtype Nack Nack is = refl
same_subtype _ _ is = absurd (omega arith)

-- as many cookies that stand at the same place, and none after them
same_cookies : (m n : ℕ) (bytes : List ℕ) (cs ds : List Cookie) → m ≡ n → AreCookies m cs → AreCookies n ds
    → take m cs ≡ cookies_at 32 m bytes → take n ds ≡ cookies_at 32 n bytes → cs ≡ ds
same_cookies m n bytes cs ds is form other_form read other_read =
    let fronts : take m cs ≡ take n ds = read ∙ ap (λ (k : ℕ). cookies_at 32 k bytes) is ∙ sym other_read in
    let rests : drop m cs ≡ drop n ds = form.none ∙ ap (λ (k : ℕ). replicate (14 - k) no_cookie) is ∙ sym other_form.none in
    sym (take-append-drop m cs) ∙ ap (λ (zs : List Cookie). zs ++ drop m cs) fronts ∙ ap (λ (zs : List Cookie). take n ds ++ zs) rests ∙ take-append-drop n ds

same_ver : (a b c a' b' c' : ℕ) → a ≡ a' → b ≡ b' → c ≡ c' → Ver a b c ≡ Ver a' b' c'
same_ver a b c a' b' c' p q r = cc

same_reg : (a b c d e a' b' c' d' e' : ℕ) (cs ds : List Cookie) → a ≡ a' → b ≡ b' → c ≡ c' → d ≡ d' → e ≡ e' → cs ≡ ds
    → DringReg a b c d e cs ≡ DringReg a' b' c' d' e' ds
same_reg a b c d e a' b' c' d' e' cs ds p q r s t u = cc

same_data : (a b c d e a' b' c' d' e' : ℕ) → a ≡ a' → b ≡ b' → c ≡ c' → d ≡ d' → e ≡ e'
    → DringData a b c d e ≡ DringData a' b' c' d' e'
same_data a b c d e a' b' c' d' e' p q r s t = cc

same_mcast : (a b a' b' : ℕ) (cs ds : List (List ℕ)) → a ≡ a' → b ≡ b' → cs ≡ ds → Mcast a b cs ≡ Mcast a' b' ds
same_mcast a b a' b' cs ds p q r = cc

-- bodies of one envelope that the same bytes spell
same_body : (bytes : List ℕ) (a b : MsgBody) → envelope_code a ≡ envelope_code b → HasForm a → HasForm b
    → SpellsBody bytes a → SpellsBody bytes b → a ≡ b
same_body bytes (Ver a b c) (Ver a' b' c') is fa fb pa pb = same_ver a b c a' b' c' (pa.0 ∙ sym pb.0) (pa.1 ∙ sym pb.1) (pa.2 ∙ sym pb.2)
same_body bytes (Attr xs) (Attr ys) is fa fb pa pb = ap Attr (pa ∙ sym pb)
same_body bytes (DringReg a b c d m cs) (DringReg a' b' c' d' n ds) is fa fb pa pb =
    let counts : m ≡ n = pa.4 ∙ sym pb.4 in
    same_reg a b c d m a' b' c' d' n cs ds (pa.0 ∙ sym pb.0) (pa.1 ∙ sym pb.1) (pa.2 ∙ sym pb.2) (pa.3 ∙ sym pb.3) counts
    (same_cookies m n bytes cs ds counts fa fb pa.5 pb.5)
same_body bytes (DringUnreg a) (DringUnreg b) is fa fb pa pb = ap DringUnreg (pa ∙ sym pb)
same_body bytes Rdx Rdx is fa fb pa pb = refl
same_body bytes (DringData a b c d e) (DringData a' b' c' d' e') is fa fb pa pb =
    same_data a b c d e a' b' c' d' e' (pa.0 ∙ sym pb.0) (pa.1 ∙ sym pb.1) (pa.2 ∙ sym pb.2) (pa.3 ∙ sym pb.3) (pa.4 ∙ sym pb.4)
same_body bytes (Mcast a b cs) (Mcast a' b' ds) is fa fb pa pb =
    same_mcast a b a' b' cs ds (pa.0 ∙ sym pb.0) (pa.1 ∙ sym pb.1) (pa.2 ∙ sym pb.2)
same_body bytes (Plain a) (Plain b) is fa fb pa pb = ap Plain is
same_body bytes _ _ is fa fb _ _ = absurd (omega arith)

-- bytes spell one message
pub spelled_once : (bytes : List ℕ) (one other : Message) → IsWellFormed one → IsWellFormed other
    → SpellsMessage bytes one → SpellsMessage bytes other → one ≡ other
spelled_once bytes one other form other_form is other_is =
    let subtype : one.subtype ≡ other.subtype = same_subtype one.subtype other.subtype (sym is.subtype ∙ other_is.subtype) in
    let sid : one.sid ≡ other.sid = is.sid ∙ sym other_is.sid in
    let body : one.body ≡ other.body = same_body bytes one.body other.body (sym is.envelope ∙ other_is.envelope) form other_form is.body other_is.body in
    ap (λ (s : Subtype). record { subtype = s; sid = one.sid; body = one.body }) subtype
    ∙ ap (λ (n : ℕ). record { subtype = other.subtype; sid = n; body = one.body }) sid
    ∙ ap (λ (b : MsgBody). record { subtype = other.subtype; sid = other.sid; body = b }) body
