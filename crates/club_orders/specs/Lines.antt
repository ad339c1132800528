-- The explanation of each refusal, value and fault. The texts are constants of the code.
use Rattle.std.specs.Prelude.{List, ◌++◌, ℕ, string_bytes}
use Rattle.club_rules.specs.declared.names.GameKind.TheVariants.{Draughts, Shogi}
use Rattle.club_rules.specs.declared.records.RecordFormat.TheVariants.{Pdn, Csa}
use Rattle.club_rules.specs.declared.refusals.MoveRefusal.{MoveRefusal}
use Rattle.club_rules.specs.declared.refusals.MoveRefusal.TheVariants.{Ambiguous, BadText, DeadDrop, DropMate}
use Rattle.club_rules.specs.declared.refusals.MoveRefusal.TheVariants.{KingAttacked, MustCapture, MustPromote}
use Rattle.club_rules.specs.declared.refusals.MoveRefusal.TheVariants.{NoSuchMove, NotInHand, NotLongest, TwoPawns}
use Rattle.club_rules.specs.declared.record_refusals.RecordRefusal.{RecordRefusal}
use Rattle.club_rules.specs.declared.record_refusals.RecordRefusal.TheVariants as of_record
use Rattle.club_requests.specs.declared.refusals.Refusal.{Refusal}
use Rattle.club_requests.specs.declared.refusals.Refusal.TheVariants as refusal
use Rattle.club_orders.specs.declared.causes.WrongValue.{WrongValue}
use Rattle.club_orders.specs.declared.causes.WrongValue.TheVariants as value
use Rattle.club_orders.specs.declared.causes.ExplainedFault.{ExplainedFault}
use Rattle.club_orders.specs.declared.causes.ExplainedFault.TheVariants as fault
use Rattle.club_orders.specs.declared.causes.FileFault.{FileFault}
use Rattle.club_orders.specs.declared.causes.FileFault.TheVariants as file
use Rattle.club_orders.specs.declared.causes.ObjectKind.{ObjectKind}
use Rattle.club_orders.specs.declared.causes.ObjectKind.TheVariants as object
use Rattle.club_orders.specs.declared.causes.UnreadObject.{UnreadObject}
use Rattle.club_orders.specs.declared.causes.Explanation.{Explanation}
use Rattle.club_orders.specs.declared.causes.Explanation.TheVariants as explanation
use Rattle.club_orders.specs.declared.texts.TheConstants.{UNKNOWN_KEY, NOT_ALLOWED, UNKNOWN_EVENT, UNKNOWN_GAME}
use Rattle.club_orders.specs.declared.texts.TheConstants.{UNKNOWN_CHALLENGE, NOT_A_PLAYER, GAME_OVER, WRONG_PLY}
use Rattle.club_orders.specs.declared.texts.TheConstants.{CONFLICT, NOT_YOUR_TURN, OUT_OF_TIME, TIME_LEFT, NO_OFFER}
use Rattle.club_orders.specs.declared.texts.TheConstants.{NOT_IN_THIS_GAME, NAME_TAKEN, BAD_VALUE, FULL}
use Rattle.club_orders.specs.declared.texts.TheConstants.{NOT_DECLARABLE, NO_SUCH_MOVE, MUST_CAPTURE, NOT_LONGEST}
use Rattle.club_orders.specs.declared.texts.TheConstants.{NOT_IN_HAND, MUST_PROMOTE, DEAD_DROP, TWO_PAWNS}
use Rattle.club_orders.specs.declared.texts.TheConstants.{KING_ATTACKED, DROP_MATE, NO_DRAUGHTS_MOVE, NO_SHOGI_MOVE}
use Rattle.club_orders.specs.declared.texts.TheConstants.{AMBIGUOUS, NO_PDN, NO_CSA, NO_VERSION, OTHER_TYPE}
use Rattle.club_orders.specs.declared.texts.TheConstants.{OTHER_OPENING, AMBIGUOUS_PLY, ILLEGAL, AFTER_END}
use Rattle.club_orders.specs.declared.texts.TheConstants.{UNFINISHED, RESULT_DIFFERS, MEMBER_NAME, MEMBER_KEY}
use Rattle.club_orders.specs.declared.texts.TheConstants.{EVENT_NAME, BUDGET, INCREMENT, GAME_KEY, SAME_PLAYER}
use Rattle.club_orders.specs.declared.texts.TheConstants.{UNKNOWN_PLAYER, RECORD_LENGTH, NO_PART, PLAYER_OR_RECORD}
use Rattle.club_orders.specs.declared.texts.TheConstants.{MOVE_TEXT, LISTED_MEMBER, NO_CLUB, NOT_EMPTY, OLDER_SCHEMA}
use Rattle.club_orders.specs.declared.texts.TheConstants.{LATER_SCHEMA, DAMAGED, IN_USE, NO_DATABASE, NO_FOLDER}
use Rattle.club_orders.specs.declared.texts.TheConstants.{DENIED, READ_ONLY, LINKED, JOURNAL, FOREIGN_LOG, LONG_NAME}
use Rattle.club_orders.specs.declared.texts.TheConstants.{NOT_OPENED, STORE, REOPEN}
use Rattle.club_orders.specs.declared.texts.TheConstants.{MEMORY, NO_CLOCK, NO_RECORD, NO_PORT, NO_OUTPUT}
use Rattle.club_orders.specs.declared.texts.TheConstants.{NO_COPY, NO_ORDERS, NOT_PRIVATE, UTF_16, AUTO_VACUUM}
use Rattle.club_orders.specs.declared.texts.TheConstants.{RESERVED_BYTES, MALFORMED, BROKEN_RULES, SEATED_NAME}
use Rattle.club_orders.specs.declared.texts.TheConstants.{NAME_TWICE, UNKNOWN_MEMBER, KEY_PREFIX, VIRTUAL_TABLE, VIEW}
use Rattle.club_orders.specs.declared.texts.TheConstants.{SWEEP_LIMIT, EVENT_CLOSED, KEY_OWNER, NAMES_TAKEN, GRANT_TIME}
use Rattle.club_orders.specs.declared.texts.TheConstants.{RULING_NUMBER}
use Rattle.club_orders.specs.declared.texts.TheConstants.{NO_ARBITER, NO_KEY}
use Rattle.club_orders.specs.declared.texts.TheConstants.{VIEW_TRIGGER, NAMESAKE, TABLE, OBJECT_END}

-- refusals of a move by the rules
abbrev pub move_line : MoveRefusal → List ℕ
move_line (NoSuchMove game) = NO_SUCH_MOVE.now
move_line MustCapture = MUST_CAPTURE.now
move_line NotLongest = NOT_LONGEST.now
move_line NotInHand = NOT_IN_HAND.now
move_line MustPromote = MUST_PROMOTE.now
move_line DeadDrop = DEAD_DROP.now
move_line TwoPawns = TWO_PAWNS.now
move_line KingAttacked = KING_ATTACKED.now
move_line DropMate = DROP_MATE.now
move_line (BadText Draughts offset) = NO_DRAUGHTS_MOVE.now
move_line (BadText Shogi offset) = NO_SHOGI_MOVE.now
move_line Ambiguous = AMBIGUOUS.now

-- refusals of a record
abbrev pub record_line : RecordRefusal → List ℕ
record_line (of_record.BadText Pdn place) = NO_PDN.now
record_line (of_record.BadText Csa place) = NO_CSA.now
record_line of_record.Version = NO_VERSION.now
record_line of_record.OtherType = OTHER_TYPE.now
record_line (of_record.OtherOpening format) = OTHER_OPENING.now
record_line (of_record.Ambiguous ply) = AMBIGUOUS_PLY.now
record_line (of_record.Illegal format ply cause) = ILLEGAL.now
record_line (of_record.AfterEnd format ply) = AFTER_END.now
record_line (of_record.Unfinished format) = UNFINISHED.now
record_line (of_record.ResultDiffers format) = RESULT_DIFFERS.now

-- refusals by the club
abbrev pub refusal_line : Refusal → List ℕ
refusal_line refusal.UnknownKey = UNKNOWN_KEY.now
refusal_line refusal.NotAllowed = NOT_ALLOWED.now
refusal_line refusal.UnknownEvent = UNKNOWN_EVENT.now
refusal_line refusal.UnknownGame = UNKNOWN_GAME.now
refusal_line refusal.UnknownChallenge = UNKNOWN_CHALLENGE.now
refusal_line refusal.NotAPlayer = NOT_A_PLAYER.now
refusal_line refusal.GameOver = GAME_OVER.now
refusal_line refusal.WrongPly = WRONG_PLY.now
refusal_line refusal.Conflict = CONFLICT.now
refusal_line refusal.NotYourTurn = NOT_YOUR_TURN.now
refusal_line refusal.OutOfTime = OUT_OF_TIME.now
refusal_line refusal.TimeLeft = TIME_LEFT.now
refusal_line refusal.NoOffer = NO_OFFER.now
refusal_line refusal.NotInThisGame = NOT_IN_THIS_GAME.now
refusal_line refusal.NameTaken = NAME_TAKEN.now
refusal_line refusal.BadValue = BAD_VALUE.now
refusal_line refusal.Full = FULL.now
refusal_line refusal.NotDeclarable = NOT_DECLARABLE.now
refusal_line refusal.EventClosed = EVENT_CLOSED.now
refusal_line (refusal.Play ply refusal) = move_line refusal
refusal_line (refusal.Record refusal) = record_line refusal

-- values that are refused by 65
abbrev pub value_line : WrongValue → List ℕ
value_line value.MemberName = MEMBER_NAME.now
value_line value.MemberKey = MEMBER_KEY.now
value_line value.KeyOwner = KEY_OWNER.now
value_line value.EventName = EVENT_NAME.now
value_line value.Budget = BUDGET.now
value_line value.Increment = INCREMENT.now
value_line value.GameKey = GAME_KEY.now
value_line value.SamePlayer = SAME_PLAYER.now
value_line value.UnknownPlayer = UNKNOWN_PLAYER.now
value_line value.RecordLength = RECORD_LENGTH.now
value_line value.NoPart = NO_PART.now
value_line value.PlayerOrRecord = PLAYER_OR_RECORD.now
value_line value.MoveText = MOVE_TEXT.now
value_line value.ListedMember = LISTED_MEMBER.now
value_line value.SeatedName = SEATED_NAME.now
value_line value.NameTwice = NAME_TWICE.now
value_line value.UnknownMember = UNKNOWN_MEMBER.now
value_line value.RulingNumber = RULING_NUMBER.now
value_line value.GrantTime = GRANT_TIME.now
value_line value.KeyPrefix = KEY_PREFIX.now
value_line value.SweepLimit = SWEEP_LIMIT.now

-- why a file was not opened
abbrev pub file_line : FileFault → List ℕ
file_line file.NoDatabase = NO_DATABASE.now
file_line file.NoFolder = NO_FOLDER.now
file_line file.Denied = DENIED.now
file_line file.ReadOnly = READ_ONLY.now
file_line file.Linked = LINKED.now
file_line file.Journal = JOURNAL.now
file_line file.ForeignLog = FOREIGN_LOG.now
file_line file.LongName = LONG_NAME.now
file_line file.NotPrivate = NOT_PRIVATE.now
file_line file.Utf16 = UTF_16.now
file_line file.AutoVacuum = AUTO_VACUUM.now
file_line file.ReservedBytes = RESERVED_BYTES.now
file_line file.Malformed = MALFORMED.now
file_line file.BrokenRules = BROKEN_RULES.now
file_line file.Failed = NOT_OPENED.now

-- faults of the file, memory, input and output
abbrev pub fault_line : ExplainedFault → List ℕ
fault_line fault.NoClub = NO_CLUB.now
fault_line fault.NotEmpty = NOT_EMPTY.now
fault_line fault.NamesTaken = NAMES_TAKEN.now
fault_line fault.OlderSchema = OLDER_SCHEMA.now
fault_line fault.LaterSchema = LATER_SCHEMA.now
fault_line fault.NoArbiter = NO_ARBITER.now
fault_line fault.Damaged = DAMAGED.now
fault_line fault.InUse = IN_USE.now
fault_line (fault.NotOpened cause) = file_line cause
fault_line fault.Store = STORE.now
fault_line fault.Reopen = REOPEN.now
fault_line fault.Memory = MEMORY.now
fault_line fault.NoClock = NO_CLOCK.now
fault_line fault.NoRecord = NO_RECORD.now
fault_line fault.NoKey = NO_KEY.now
fault_line fault.NoOrders = NO_ORDERS.now
fault_line fault.NoPort = NO_PORT.now
fault_line fault.NoOutput = NO_OUTPUT.now
fault_line fault.NoCopy = NO_COPY.now

-- the text of an explanation
abbrev pub line_of : Explanation → List ℕ
line_of (explanation.Refusal refusal) = refusal_line refusal
line_of (explanation.Value value) = value_line value
line_of (explanation.Fault fault) = fault_line fault

-- what stands before the name of an object that is not read
abbrev pub object_text : ObjectKind → List ℕ
object_text object.VirtualTable = VIRTUAL_TABLE.now
object_text object.View = VIEW.now
object_text object.ViewTrigger = VIEW_TRIGGER.now
object_text object.Namesake = NAMESAKE.now
object_text object.Table = TABLE.now

-- what stands behind it
abbrev pub object_end : List ℕ
object_end = OBJECT_END.now

-- the explanation of an object that is not read
abbrev pub object_line : UnreadObject → List ℕ
object_line unread = object_text unread.kind ++ (string_bytes unread.name ++ object_end)
