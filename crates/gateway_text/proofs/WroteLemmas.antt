-- From pieces of text to members, and from members to an object.
use Rattle.std.proofs.lemmas.List.{length-drop, take_all}
use Rattle.std.proofs.Common.{arith, ◌-◌, ◌≤◌, drop, length, take, ap, codes, ◌≡◌, ℕ, List, [], ◌∷◌, ◌++◌, Bool, true, false, refl, sym, ◌∙◌, append_assoc, IsTrue}
use Rattle.json.specs.Print.{escape, escape_byte, quoted}
use Rattle.serde_json.specs.Data.{Data, object, Members, no_members, member, string}
use Rattle.serde_json.specs.Written.{compact_text, members_text}
use Rattle.etcd_model.specs.ReplyText.{result_data, stream_text}
use Rattle.gateway_text.specs.Plain.{is_plain}
use Rattle.gateway_text.proofs.PlainLemmas.{escape_plain}
use Rattle.gateway_text.specs.Wrote.{IsOpening, WroteMembers, name_in, name_text}

-- a name and its value
pub wrote_value : (old named new : List ℕ) (later : Bool) (name : List ℕ) (d : Data) → named ≡ old ++ name_text later name → new ≡ named ++ compact_text d → WroteMembers old later new true (λ r. member name d r)
wrote_value old named new later name d names values = record { text = λ rest. rw (values, names) (simp append_assoc) }

closed_name : (name : List ℕ) → IsTrue (is_plain name) → name ++ 34 ∷ 58 ∷ 34 ∷ [] ≡ (escape name ++ 34 ∷ 58 ∷ []) ++ 34 ∷ []
closed_name name plain = rw (escape_plain name plain) (sym (append_assoc name (34 ∷ 58 ∷ []) (34 ∷ [])))

-- an opening where a member stands before
pub opening_later : (opening : List ℕ) → IsOpening opening → opening ≡ name_text true (name_in opening) ++ 34 ∷ []
opening_later opening is = is.1 ∙ ap (λ t. 44 ∷ 34 ∷ t) (closed_name (name_in opening) is.0)

-- and one that begins an object has no comma
pub opening_first : (opening : List ℕ) → IsOpening opening → take (length opening - 1) (drop 1 opening) ≡ name_text false (name_in opening) ++ 34 ∷ []
opening_first opening is =
    let short : length (drop 1 opening) ≤ length opening - 1 = (rw (length-drop 1 opening) (omega arith)) in
    take_all (length opening - 1) (drop 1 opening) short ∙ ap (λ (t : List ℕ). drop 1 t) is.1 ∙ ap (λ t. 34 ∷ t) (closed_name (name_in opening) is.0)

text_opens : (old named text : List ℕ) → (old ++ (named ++ 34 ∷ [])) ++ text ≡ (old ++ named) ++ 34 ∷ text
text_opens old named text = simp append_assoc

-- an opening, and its text with the quote after it
pub wrote_text : (old opened new : List ℕ) (later : Bool) (name text : List ℕ) → IsTrue (is_plain text) → opened ≡ old ++ (name_text later name ++ 34 ∷ []) → new ≡ opened ++ (text ++ 34 ∷ [])
    → WroteMembers old later new true (λ r. member name (string text) r)
wrote_text old opened new later name text plain opens closes =
    let named = old ++ name_text later name in
    wrote_value old named new later name (string text) refl
    (closes ∙ ap (λ t. t ++ (text ++ 34 ∷ [])) opens ∙ text_opens old (name_text later name) (text ++ 34 ∷ [])
    ∙ ap (λ t. named ++ 34 ∷ (t ++ 34 ∷ [])) (sym (escape_plain text plain)))

infixr 30 ◌then◌
-- one writer after another
pub ◌then◌ : {a b c : List ℕ} {l m n : Bool} {f g : Members → Members} → WroteMembers a l b m f → WroteMembers b m c n g → WroteMembers a l c n (λ r. f (g r))
◌then◌ {g = g} first second = record { text = λ rest. second.text rest ∙ first.text (g rest) }

-- the braces round the members
pub object_written : {opened last new : List ℕ} {after : Bool} {f : Members → Members} (old : List ℕ) → opened ≡ old ++ 123 ∷ [] → WroteMembers opened false last after f → new ≡ last ++ 125 ∷ []
    → new ≡ old ++ compact_text (object (f no_members))
object_written old begins members ends = ends ∙ members.text no_members ∙ rw begins (append_assoc old _ _)

single_text : (old name value : List ℕ) → ((old ++ 123 ∷ 34 ∷ (name ++ 34 ∷ 58 ∷ [])) ++ value) ++ 125 ∷ [] ≡ old ++ 123 ∷ ((34 ∷ (name ++ 34 ∷ [])) ++ 58 ∷ (value ++ 125 ∷ []))
single_text old name value = simp append_assoc

-- the braces and the name round the one value of an object
pub single_written : {opened last new : List ℕ} (old name value : List ℕ) → IsTrue (is_plain name) → opened ≡ old ++ 123 ∷ 34 ∷ (name ++ 34 ∷ 58 ∷ []) → last ≡ opened ++ value → new ≡ last ++ 125 ∷ []
    → new ≡ old ++ 123 ∷ (quoted name ++ 58 ∷ (value ++ 125 ∷ []))
single_written old name value plain begins valued ends = rw (ends, valued, begins, escape_plain name plain) (single_text old name value)

result_text : (old begin members : List ℕ) → ((old ++ begin) ++ members) ++ 125 ∷ 10 ∷ [] ≡ old ++ (begin ++ ((members ++ 125 ∷ []) ++ 10 ∷ []))
result_text old begin members = simp append_assoc

-- the braces and the name round the members of a `result`, and the end of its line
pub result_written : {opened last new : List ℕ} {after : Bool} {f : Members → Members} (old : List ℕ) → opened ≡ old ++ codes "{\"result\":{" → WroteMembers opened false last after f → new ≡ last ++ codes "}}\n"
    → new ≡ old ++ stream_text (result_data (f no_members))
unfolding escape_byte
result_written {f = f} old begins members ends =
    ends ∙ sym (append_assoc _ (125 ∷ []) (125 ∷ 10 ∷ [])) ∙ ap (λ t. t ++ 125 ∷ 10 ∷ []) (members.text no_members)
    ∙ rw begins (result_text old (codes "{\"result\":{") (members_text false (f no_members)))
