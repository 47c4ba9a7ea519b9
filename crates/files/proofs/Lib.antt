mod StatedRows
mod Taking
