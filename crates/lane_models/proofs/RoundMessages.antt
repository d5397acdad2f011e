-- The messages of a lane's first rounds are well formed, and their numbers have their widths.
use Rattle.std.proofs.Common.{refl, arith}
use Rattle.vio_tag.specs.Form as message_form
use Rattle.lane_models.specs.FirstRounds.{attr_ack, attr_info, data_info, rdx_ack, rdx_info, reg_ack, reg_info, ver_ack, ver_info}

pub ver_info_form : message_form.IsWellFormed ver_info
ver_info_form = tt

pub ver_info_widths : message_form.HasWidths ver_info
ver_info_widths = (omega arith, (omega arith, omega arith, omega arith))

pub ver_ack_form : message_form.IsWellFormed ver_ack
ver_ack_form = tt

pub ver_ack_widths : message_form.HasWidths ver_ack
ver_ack_widths = (omega arith, (omega arith, omega arith, omega arith))

pub attr_info_form : message_form.IsWellFormed attr_info
attr_info_form = tt

pub attr_info_widths : message_form.HasWidths attr_info
attr_info_widths = (omega arith, refl)

pub attr_ack_form : message_form.IsWellFormed attr_ack
attr_ack_form = tt

pub attr_ack_widths : message_form.HasWidths attr_ack
attr_ack_widths = (omega arith, refl)

pub reg_info_form : message_form.IsWellFormed reg_info
reg_info_form = record { most = omega arith; none = refl }

pub reg_info_widths : message_form.HasWidths reg_info
reg_info_widths = (omega arith, (omega arith, omega arith, omega arith, omega arith, refl, (record { address = omega arith; size = omega arith }, (record { address = omega arith; size = omega arith }, (record { address = omega arith; size = omega arith }, (record { address = omega arith; size = omega arith }, (record { address = omega arith; size = omega arith }, (record { address = omega arith; size = omega arith }, (record { address = omega arith; size = omega arith }, (record { address = omega arith; size = omega arith }, (record { address = omega arith; size = omega arith }, (record { address = omega arith; size = omega arith }, (record { address = omega arith; size = omega arith }, (record { address = omega arith; size = omega arith }, (record { address = omega arith; size = omega arith }, (record { address = omega arith; size = omega arith }, tt))))))))))))))))

pub reg_ack_form : message_form.IsWellFormed reg_ack
reg_ack_form = record { most = omega arith; none = refl }

pub reg_ack_widths : message_form.HasWidths reg_ack
reg_ack_widths = (omega arith, (omega arith, omega arith, omega arith, omega arith, refl, (record { address = omega arith; size = omega arith }, (record { address = omega arith; size = omega arith }, (record { address = omega arith; size = omega arith }, (record { address = omega arith; size = omega arith }, (record { address = omega arith; size = omega arith }, (record { address = omega arith; size = omega arith }, (record { address = omega arith; size = omega arith }, (record { address = omega arith; size = omega arith }, (record { address = omega arith; size = omega arith }, (record { address = omega arith; size = omega arith }, (record { address = omega arith; size = omega arith }, (record { address = omega arith; size = omega arith }, (record { address = omega arith; size = omega arith }, (record { address = omega arith; size = omega arith }, tt))))))))))))))))

pub rdx_info_form : message_form.IsWellFormed rdx_info
rdx_info_form = tt

pub rdx_info_widths : message_form.HasWidths rdx_info
rdx_info_widths = (omega arith, tt)

pub rdx_ack_form : message_form.IsWellFormed rdx_ack
rdx_ack_form = tt

pub rdx_ack_widths : message_form.HasWidths rdx_ack
rdx_ack_widths = (omega arith, tt)

pub data_info_form : message_form.IsWellFormed data_info
data_info_form = tt

pub data_info_widths : message_form.HasWidths data_info
data_info_widths = (omega arith, (omega arith, omega arith, omega arith, omega arith, omega arith))
