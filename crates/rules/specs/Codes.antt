-- The numbers of calls and answers, by meaning.
-- Assumes nothing.
use Rattle.std.specs.Prelude.{ℕ, ℤ, pos, negsuc, ◌+ℤ◌}
use Rattle.rules.specs.declared.refusal.Refusal.{Refusal}
use Rattle.rules.specs.declared.refusal.Refusal.TheVariants.{TooLittleRoom, CutShort, Malformed, Unsound, UnknownKind, UnknownParty, TxProtocolError, TxError, TxEinval, BadArgument, NotAllowedNow, NoSuchEnd, NotOffered}
use Rattle.rules.specs.declared.refusal.Refusal.TheVariants.{NoRoomLeft, InTransaction, TimedOut, NothingWaiting, NoSuchSequence, BadReport, NotPermitted, NoReplyYet, NothingUnread, UnreadFull}

-- ---- TX (document 002)
abbrev pub tx_ok : ℤ
tx_ok = pos 0

abbrev pub tx_not_supported : ℤ
tx_not_supported = pos 1

-- tx_info: is the caller in a transaction
abbrev pub tx_info_outside : ℤ
tx_info_outside = pos 0

abbrev pub tx_info_inside : ℤ
tx_info_inside = pos 1

abbrev pub tx_rollback : ℤ
tx_rollback = negsuc 1

-- TX_MIXED: partly committed and partly rolled back
abbrev pub tx_mixed : ℤ
tx_mixed = negsuc 2

-- TX_HAZARD: it may be so
abbrev pub tx_hazard : ℤ
tx_hazard = negsuc 3

-- TX_COMMITTED: heuristically committed
abbrev pub tx_committed : ℤ
tx_committed = negsuc 8

abbrev pub tx_protocol_error : ℤ
tx_protocol_error = negsuc 4

abbrev pub tx_error : ℤ
tx_error = negsuc 5

abbrev pub tx_einval : ℤ
tx_einval = negsuc 7

-- TX_NO_BEGIN and its kin: the transaction is over as the code says, and no new one could begin
abbrev pub tx_no_begin : ℤ
tx_no_begin = negsuc 99

unfoldable pub no_begin : ℤ → ℤ
no_begin code = code +ℤ tx_no_begin

-- ---- a list of calls was run; a drill file, or a piece of one
abbrev pub list_run : ℤ
list_run = pos 0

abbrev pub file_run : ℤ
file_run = pos 0

-- ---- a request was written in OSI TP's primitives, or read from them
abbrev pub sequence_done : ℤ
sequence_done = pos 0

-- ---- refusals of a list, a file, a sequence, a record or a call
abbrev pub too_little_room : ℤ
too_little_room = pos 16

abbrev pub cut_short : ℤ
cut_short = pos 17

abbrev pub malformed : ℤ
malformed = pos 18

abbrev pub unsound : ℤ
unsound = pos 19

abbrev pub unknown_kind : ℤ
unknown_kind = pos 20

abbrev pub unknown_party : ℤ
unknown_party = pos 21

-- ---- refusals of the XATMI kinds
abbrev pub bad_argument : ℤ
bad_argument = pos 22

-- not now: the caller's or the end's state forbids it
abbrev pub not_allowed_now : ℤ
not_allowed_now = pos 23

abbrev pub no_such_end : ℤ
no_such_end = pos 24

abbrev pub not_offered : ℤ
not_offered = pos 25

abbrev pub no_room_left : ℤ
no_room_left = pos 26

abbrev pub in_transaction : ℤ
in_transaction = pos 27

abbrev pub timed_out : ℤ
timed_out = pos 28

-- "Keep it for an empty take" (document 02)
abbrev pub nothing_waiting : ℤ
nothing_waiting = pos 32

-- ---- refusal of a reader of OSI TP's primitives
abbrev pub no_such_sequence : ℤ
no_such_sequence = pos 33

-- ---- refusal of a resource manager's report: no such manager, or an unknown report of it
abbrev pub bad_report : ℤ
bad_report = pos 34

-- ---- refusal of a party without the right to call it
abbrev pub not_permitted : ℤ
not_permitted = pos 35

-- ---- refusals where nothing is there yet, by the two kinds that answer 36, and where four are unread
abbrev pub no_reply_yet : ℤ
no_reply_yet = pos 36

abbrev pub nothing_unread : ℤ
nothing_unread = pos 36

abbrev pub unread_full : ℤ
unread_full = pos 37

-- ---- accepted by the XATMI kinds
abbrev pub tp_accepted : ℤ
tp_accepted = pos 0

-- TPEEVENT: an event came, which the answer names
abbrev pub tpe_event : ℤ
tpe_event = pos 29

abbrev pub tpe_svc_fail : ℤ
tpe_svc_fail = pos 30

abbrev pub tpe_svc_err : ℤ
tpe_svc_err = pos 31

-- ---- events; how a service returned is its link's outcome, too
abbrev pub tpev_discon_imm : ℕ
tpev_discon_imm = 1

abbrev pub tpev_svc_err : ℕ
tpev_svc_err = 2

abbrev pub tpev_svc_fail : ℕ
tpev_svc_fail = 4

abbrev pub tpev_svc_succ : ℕ
tpev_svc_succ = 8

abbrev pub tpev_send_only : ℕ
tpev_send_only = 32

-- of a dispatch: a request; a conversation whose server receives, or sends
abbrev pub request_dispatched : ℕ
request_dispatched = 64

abbrev pub receiver_dispatched : ℕ
receiver_dispatched = 65

abbrev pub sender_dispatched : ℕ
sender_dispatched = 66

-- ---- flags of a request or a connect
abbrev pub tp_no_reply : ℕ
tp_no_reply = 1

abbrev pub tp_no_tran : ℕ
tp_no_tran = 2

abbrev pub tp_send_only : ℕ
tp_send_only = 4

abbrev pub tp_recv_only : ℕ
tp_recv_only = 8

-- ---- flag of a fetch: whichever reply is there
abbrev pub tp_get_any : ℕ
tp_get_any = 1

-- ---- how a service means to return
abbrev pub tp_success : ℕ
tp_success = 1

abbrev pub tp_fail : ℕ
tp_fail = 2

-- ---- the number of each reason for a refusal
abbrev pub code_of : Refusal → ℤ
code_of TooLittleRoom = too_little_room
code_of CutShort = cut_short
code_of Malformed = malformed
code_of Unsound = unsound
code_of UnknownKind = unknown_kind
code_of UnknownParty = unknown_party
code_of TxProtocolError = tx_protocol_error
code_of TxError = tx_error
code_of TxEinval = tx_einval
code_of BadArgument = bad_argument
code_of NotAllowedNow = not_allowed_now
code_of NoSuchEnd = no_such_end
code_of NotOffered = not_offered
code_of NoRoomLeft = no_room_left
code_of InTransaction = in_transaction
code_of TimedOut = timed_out
code_of NothingWaiting = nothing_waiting
code_of NoSuchSequence = no_such_sequence
code_of BadReport = bad_report
code_of NotPermitted = not_permitted
code_of NoReplyYet = no_reply_yet
code_of NothingUnread = nothing_unread
code_of UnreadFull = unread_full
