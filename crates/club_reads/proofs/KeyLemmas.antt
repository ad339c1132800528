-- The name of the member who is found by a key.
use Rattle.std.proofs.Common.{◌≡◌, ℕ, List, Option, Some, None, true, refl, sym, ap, ◌∙◌}
use Rattle.std.specs.Prelude.{is_some, option_map}
use Rattle.store_tables.specs.internal.Cells.{member_cells}
use Rattle.store_tables.specs.declared.rows.MemberRow.{MemberRow}
use Rattle.club_requests.specs.declared.requests.Caller.{Caller}
use Rattle.club_requests.specs.declared.requests.Caller.TheVariants as caller
use Rattle.club_core.specs.Members.{Member, find_id}
use Rattle.club_core.specs.State.{caller_found, has_member_key}
use Rattle.club_laws.proofs.Proved.{find_id-found}
use Rattle.club_rows.specs.Club.{ClubState}
use Rattle.club_rows.specs.Tables.{member_row}
use Rattle.club_reads.specs.Keys.{caller_name, member_by_key}
use Rattle.club_reads.specs.internal.Holders.{IsHolder}

module _ (s : ClubState) (key : List ℕ) where
  -- the row that is found for a key has its holder's name, and the holder's id
  pub holder_some : (row : MemberRow) (name : List ℕ) → IsHolder s key (Some row)
      → ((id : ℕ) (m : Member) → member_cells row ≡ member_row id m → name ≡ m.name) → Some name ≡ member_by_key s key
  holder_some row name held tells =
      let (id, m, at, cells, called) = held in
      ap Some (tells id m cells)
      ∙ (sym (ap (λ (o : Option Member). option_map (λ (x : Member). x.name) o) at)
      ∙ ap (caller_name s.members) (sym called))

  pub holder_none : IsHolder s key None → None ≡ member_by_key s key
  holder_none held = ap (caller_name s.members) (sym held)

  pub holder_called : (row : MemberRow) (who : Caller) → IsHolder s key (Some row)
      → ((id : ℕ) (m : Member) → member_cells row ≡ member_row id m → who ≡ caller.Member id)
      → Some who ≡ caller_found (find_id (has_member_key key) s.members)
  holder_called row who held tells =
      let (id, m, at, cells, called) = held in
      ap Some (tells id m cells) ∙ sym called

module _ (s : ClubState) (key : List ℕ) where
  named : (found : Option ℕ) → find_id (has_member_key key) s.members ≡ found → is_some (caller_found found) ≡ true
      → is_some (caller_name s.members (caller_found found)) ≡ true
  named None found is = is
  named (Some id) found is =
      let (m, stands, passes) = find_id-found (has_member_key key) s.members id found in
      ap (λ (o : Option Member). is_some (option_map (λ (x : Member). x.name) o)) stands

  -- one whom the machine takes for a member has a name
  pub holder_named : is_some (caller_found (find_id (has_member_key key) s.members)) ≡ true
      → is_some (member_by_key s key) ≡ true
  holder_named is = named (find_id (has_member_key key) s.members) refl is
