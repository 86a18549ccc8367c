-- The flush floor, by the exponent's field.
mod Floor
